-- What follows from the rule of refusal, and what calls in a row leave.
use Rattle.std.proofs.Common.{◌≡◌, ℕ, Bool, true, false, cond, None, Ok, Err, Option, Result, refl, ap, ◌∙◌, arith}
use Rattle.fault.specs.declared.faults.NumberFault.{NumberFault}
use Rattle.fault.specs.declared.faults.NumberFault.TheVariants.{Boundary}
use Rattle.gamut.specs.declared.chroma.ChromaValues.{ChromaValues}
use Rattle.number.specs.Ops.{Ops, Hom}
use Rattle.boundary.specs.Query.{Gamut}
use Rattle.boundary.specs.Rule.{meant, untold, refuses, first_trace, admitted}
use Rattle.boundary.specs.Triangles.{triangle_at}
use Rattle.boundary.specs.Model.{Model, Stays}
use Rattle.gamut.specs.Maps.{map_values}

-- Where numbers have no trace, a refusal has none.
pub no_trace : {N : Type 0} (o : Ops N) (l : N) (v : ChromaValues N) → first_trace o untold l v ≡ None
no_trace o l v = go (o.spoiled l) (o.spoiled v.zero) (o.spoiled v.mid) (o.spoiled v.max)
  where
    nothing : Option (ℕ × ℕ)
    nothing = None

    go : (w x y z : Bool) → cond w nothing (cond x nothing (cond y nothing (cond z nothing nothing))) ≡ nothing
    go true x y z = refl
    go false true y z = refl
    go false false true z = refl
    go false false false true = refl
    go false false false false = refl

module _ {N M : Type 0} {f : N → M} {o : Ops N} {p : Ops M} (h : Hom f o p) where
  pub refuses-carried : (l : N) (v : ChromaValues N) → refuses o l v ≡ refuses p (f l) (map_values f v)
  refuses-carried l v = simp (h.lt, h.whole, h.spoiled)

  -- The rule gives what numbers mean by what they mean.
  pub admitted-carried : (traced : N → Option (ℕ × ℕ)) (l : N) (v : ChromaValues N) → meant (map_values f) (admitted o traced l v) ≡ admitted p untold (f l) (map_values f v)
  admitted-carried traced l v = rw (refuses-carried l v, no_trace p (f l) (map_values f v)) (go (refuses p (f l) (map_values f v)))
    where
      go : (x : Bool) → meant (map_values f) (cond x (Err (Boundary (first_trace o traced l v))) (Ok v)) ≡ cond x (Err (Boundary None)) (Ok (map_values f v))
      go true = refl
      go false = refl

  pub triangle-carried : (s t l : N) → map_values f (triangle_at o s t l) ≡ triangle_at p (f s) (f t) (f l)
  triangle-carried s t l = simp (h.mul, h.min, h.sub, h.div, h.whole)

  -- So an answer by the rule is told by what the three numbers mean.
  pub answer_carried : (traced : N → Option (ℕ × ℕ)) (l : N) (v : ChromaValues N) (w : ChromaValues M) (r : Result (ChromaValues N) NumberFault) → r ≡ admitted o traced l v → map_values f v ≡ w → meant (map_values f) r ≡ admitted p untold (f l) w
  answer_carried traced l v w r e k = ap (meant (map_values f)) e ∙ admitted-carried traced l v ∙ ap (admitted p untold (f l)) k

-- An accepted query is not refused by the rule, and answers the three numbers.
pub accepted : {N : Type 0} (o : Ops N) (traced : N → Option (ℕ × ℕ)) (l : N) (v w : ChromaValues N) → admitted o traced l v ≡ Ok w → (refuses o l v ≡ false) × (w ≡ v)
accepted {N = N} o traced l v w e = go (refuses o l v) e
  where
    go : (x : Bool) → cond x (Err (Boundary (first_trace o traced l v))) (Ok v) ≡ Ok w → (x ≡ false) × (w ≡ v)
    go true e = absurd (grind arith)
    go false e = (refl, grind arith)

-- Two calls, one after the other.
pub stays_on : {S : Type 0} {meaning : S → Gamut} {model : S → Model} {s t u : S} → Stays meaning model s t → Stays meaning model t u → Stays meaning model s u
stays_on a b = record {
  same_meaning = b.same_meaning ∙ a.same_meaning;
  same_model = b.same_model ∙ a.same_model;
}
