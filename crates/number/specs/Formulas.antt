-- Formulas that every kind shares.
use Rattle.std.specs.Prelude.{cond, ◌&&◌, pos}
use Rattle.number.specs.Ops.{Ops}

module _ {N : Type 0} (o : Ops N) where
  infixl 60 ◌+◌
  infixl 70 ◌*◌ ◌/◌
  open o use {add as ◌+◌, mul as ◌*◌, div as ◌/◌, neg, sqrt, whole, lt, eq}

  -- powers, multiplied from the left
  abbrev pub square : N → N
  square x = x * x

  abbrev pub cube : N → N
  cube x = x * x * x

  -- x without its sign
  abbrev pub size : N → N
  size x = cond (lt x (whole (pos 0))) (neg x) x

  -- m × root of (1 + q × q)
  abbrev pub lengthened : N → N → N
  lengthened m q = m * sqrt (whole (pos 1) + q * q)

  -- the larger size first; by one comparison, so that a not-a-number on either side stays in the result
  abbrev pub hypot_of_sizes : N → N → N
  hypot_of_sizes a b = cond (lt a b) (lengthened b (a / b)) (lengthened a (b / a))

  -- the length of (a, b): 0 if both are 0, else m × root of (1 + q × q), m the larger size and q the smaller divided by m
  abbrev pub hypot : N → N → N
  hypot a b = cond (eq a (whole (pos 0)) && eq b (whole (pos 0))) (whole (pos 0)) (hypot_of_sizes (size a) (size b))
