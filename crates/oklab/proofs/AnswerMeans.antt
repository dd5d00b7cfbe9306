-- What a check of an answer tells, and what checks and their sequels give by what the numbers mean.
use Rattle.std.proofs.Common.{◌≡◌, ℕ, Bool, true, false, cond, List, [], ◌∷◌, map, None, Ok, Err, Option, Result, refl, ap, ◌∙◌}
use Rattle.fault.specs.declared.faults.NumberFault.{NumberFault}
use Rattle.fault.specs.declared.faults.NumberFault.TheVariants.{Lost}
use Rattle.gamut.specs.declared.chroma.ChromaValues.{ChromaValues}
use Rattle.number.specs.Ops.{Ops, Hom}
use Rattle.boundary.specs.Rule.{meant, untold, admitted}
use Rattle.boundary.proofs.Rules.{admitted-carried}
use Rattle.oklab.specs.Checks.{settled}
use Rattle.oklab.specs.Steps.{and_then}
use Rattle.gamut.specs.Maps.{map_values}

pub cond_means : {A B : Type 0} (k : A → B) {b c : Bool} (x y : A) {x' y' : B} → b ≡ c → k x ≡ x' → k y ≡ y' → k (cond b x y) ≡ cond c x' y'
cond_means k {c = c} x y {x' = x'} {y' = y'} e h h' = rw e (go c)
  where
    go : (d : Bool) → k (cond d x y) ≡ cond d x' y'
    go true = h
    go false = h'

pub settled-means : {N M X Y : Type 0} {f : N → M} {o : Ops N} {p : Ops M} → Hom f o p → (traced : N → Option (ℕ × ℕ)) (k : X → Y) (ns : List N) (x : X)
    → meant k (settled o traced ns x) ≡ settled p untold (map f ns) (k x)
settled-means h traced k [] x = refl
settled-means {f = f} {o = o} {p = p} h traced k (n ∷ ns) x = rw (h.spoiled n) (go (p.spoiled (f n)) (settled-means h traced k ns x))
  where
    go : (b : Bool) → meant k (settled o traced ns x) ≡ settled p untold (map f ns) (k x)
        → meant k (cond b (Err (Lost (traced n))) (settled o traced ns x)) ≡ cond b (Err (Lost None)) (settled p untold (map f ns) (k x))
    go true e = refl
    go false e = e

pub and_then_means : {A A' B B' : Type 0} (k : A → A') (j : B → B') (r : Result A NumberFault) (s : A → Result B NumberFault) (t : A' → Result B' NumberFault)
    → ((x : A) → meant j (s x) ≡ t (k x)) → meant j (and_then r s) ≡ and_then (meant k r) t
and_then_means k j (Ok x) s t e = e x
and_then_means k j (Err d) s t e = refl

-- What is made of an accepted query's three numbers.
pub asked_means : {N M X Y : Type 0} {f : N → M} {o : Ops N} {p : Ops M} → Hom f o p → (traced : N → Option (ℕ × ℕ)) (k : X → Y) (l : N) (v : ChromaValues N)
    (s : ChromaValues N → Result X NumberFault) (t : ChromaValues M → Result Y NumberFault) → ((w : ChromaValues N) → meant k (s w) ≡ t (map_values f w))
    → meant k (and_then (admitted o traced l v) s) ≡ and_then (admitted p untold (f l) (map_values f v)) t
asked_means {f = f} {o = o} h traced k l v s t e =
    and_then_means (map_values f) k (admitted o traced l v) s t e ∙ ap (λ r. and_then r t) (admitted-carried h traced l v)
