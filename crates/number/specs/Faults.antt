-- The first fault of a traced number: a cause and a stage, and the operations that carry it.
use Rattle.std.specs.Prelude.{ℕ, Bool, cond, pos, Some, None, Option}
use Rattle.number.specs.Ops.{Ops}
use Rattle.number.specs.declared.fault.Cause.{Cause}
use Rattle.number.specs.declared.fault.Cause.TheVariants.{ZeroDivisor, Root, Other}
use Rattle.number.specs.declared.fault.Stage.{Stage}
use Rattle.number.specs.declared.fault.Stage.TheVariants.{Toe, Cusp, Intersection, ChromaValues, Curve, Matrix}
use Rattle.number.specs.declared.fault.Fault.{Fault}
use Rattle.number.specs.declared.traced.Traced.{Traced}
use Rattle.number.specs.declared.traced.PlainTraced.{PlainTraced}

abbrev pub cause_number : Cause → ℕ
cause_number ZeroDivisor = 1
cause_number Root = 2
cause_number Other = 3

-- a fault that no stage has marked has stage 0
abbrev pub stage_number : Option Stage → ℕ
stage_number None = 0
stage_number (Some Toe) = 1
stage_number (Some Cusp) = 2
stage_number (Some Intersection) = 3
stage_number (Some ChromaValues) = 4
stage_number (Some Curve) = 5
stage_number (Some Matrix) = 6

-- cause and stage together
abbrev pub trace_of : Option Fault → Option (ℕ × ℕ)
trace_of None = None
trace_of (Some f) = Some (cause_number f.cause, stage_number f.stage)

-- the first operand's fault, else the second's, else a new one if the result is spoiled
abbrev pub first_fault : Option Fault → Option Fault → Bool → Cause → Option Fault
first_fault (Some f) b spoiled cause = Some f
first_fault None (Some f) spoiled cause = Some f
first_fault None None spoiled cause = cond spoiled (Some (record { cause = cause; stage = None })) None

-- a mark replaces stage 0 and no other
abbrev pub marked_stage : Stage → Option Stage → Option Stage
marked_stage s None = Some s
marked_stage s (Some t) = Some t

abbrev pub marked_fault : Stage → Option Fault → Option Fault
marked_fault s None = None
marked_fault s (Some f) = Some (record { cause = f.cause; stage = marked_stage s f.stage })

module _ {N : Type 0} (o : Ops N) where
  -- a result, with the faults of its operands and the cause that a new fault has
  abbrev pub result : N → Option Fault → Option Fault → Cause → Traced N
  result v a b cause = record { value = v; fault = first_fault a b (o.spoiled v) cause }

  -- the cause of a spoiled quotient, by its divisor
  abbrev pub quotient_cause : N → Cause
  quotient_cause d = cond (o.eq d (o.whole (pos 0))) ZeroDivisor Other

  -- The operations of a traced kind, from those of the kind below.
  abbrev pub traced_ops : Ops (Traced N)
  traced_ops = record {
    add = λ x y. result (o.add x.value y.value) x.fault y.fault Other;
    sub = λ x y. result (o.sub x.value y.value) x.fault y.fault Other;
    mul = λ x y. result (o.mul x.value y.value) x.fault y.fault Other;
    div = λ x y. result (o.div x.value y.value) x.fault y.fault (quotient_cause y.value);
    neg = λ x. result (o.neg x.value) x.fault None Other;
    min = λ x y. result (o.min x.value y.value) x.fault y.fault Other;
    max = λ x y. result (o.max x.value y.value) x.fault y.fault Other;
    sqrt = λ x. result (o.sqrt x.value) x.fault None Root;
    cbrt = λ x. result (o.cbrt x.value) x.fault None Root;
    whole = λ z. result (o.whole z) None None Other;
    literal = λ d. result (o.literal d) None None Other;
    mark = λ s x. record { value = o.mark s x.value; fault = marked_fault s x.fault };
    lt = λ x y. o.lt x.value y.value;
    le = λ x y. o.le x.value y.value;
    eq = λ x y. o.eq x.value y.value;
    same = λ x y. o.same x.value y.value;
    spoiled = λ x. o.spoiled x.value;
    divisor = λ x. o.divisor x.value;
    direction = λ x y. o.direction x.value y.value;
    nearest = λ x. o.nearest x.value;
  }

-- The plain form of a traced number: the plain value and the fault as they are.
abbrev pub traced_plain : {N P : Type 0} → (N → P) → Traced N → PlainTraced P
traced_plain f t = record { value = f t.value; fault = t.fault }

abbrev pub traced_back : {N P : Type 0} → (P → N) → PlainTraced P → Traced N
traced_back f p = record { value = f p.value; fault = p.fault }
