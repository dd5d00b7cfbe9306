-- What the answer of steps is, and that the answer over numbers means the answer over what they mean.
use Rattle.std.proofs.Common.{◌≡◌, ℕ, Bool, true, false, cond, Option, Result, sym, refl, ap, ◌∙◌}
use Rattle.fault.specs.declared.faults.NumberFault.{NumberFault}
use Rattle.gamut.specs.declared.chroma.ChromaValues.{ChromaValues}
use Rattle.number.specs.Meaning.{Meaning}
use Rattle.number.specs.Ops.{Ops}
use Rattle.boundary.specs.Query.{Gamut, map_query}
use Rattle.boundary.specs.Rule.{admitted}
use Rattle.boundary.specs.declared.query.Query.{Query}
use Rattle.oklab.specs.Steps.{Steps, ends, asks, then_step, run, Follows, and_then}
use Rattle.gamut.specs.Maps.{map_values}

-- Whatever the boundary means, k takes an answer of s to the answer of t.
pub record Carries {N X Y : Type 0} (f : N → Meaning) (k : X → Y) (s : Steps N X) (t : Steps Meaning Y) : Type 0 where
  pub carries : (g : Gamut) (r : X) → Follows f g s r → k r ≡ run g t

module _ {N X Y : Type 0} {f : N → Meaning} {k : X → Y} where
  pub carries_ends : {x : X} {y : Y} → k x ≡ y → Carries f k (ends x) (ends y)
  carries_ends e = record { carries = λ g r h. ap k h ∙ e }

  pub carries_asks : {q : Query N} {m : Query Meaning} {s : ChromaValues N → X} {t : ChromaValues Meaning → Y}
      → map_query f q ≡ m → ((v : ChromaValues N) → k (s v) ≡ t (map_values f v)) → Carries f k (asks q s) (asks m t)
  carries_asks {t = t} same e = record { carries = λ g r h. ap k h.2 ∙ e h.0 ∙ ap t (h.1 ∙ ap g same) }

  pub carries_cond : {b c : Bool} {s s' : Steps N X} {t t' : Steps Meaning Y} → b ≡ c → Carries f k s t → Carries f k s' t' → Carries f k (cond b s s') (cond c t t')
  carries_cond {b} {c} {s} {s'} {t} {t'} e h h' = rw e (go c)
    where
      go : (d : Bool) → Carries f k (cond d s s') (cond d t t')
      go true = h
      go false = h'

-- What a conversion's contract says of an answer r where its steps end.
pub ended : {N X Y : Type 0} {f : N → Meaning} {k : X → Y} {s : Steps N X} {t : Steps Meaning Y} → Carries f k s t → (g : Gamut) (r : X) → s ≡ ends r → Follows f g s r × (k r ≡ run g t)
ended {f = f} {s = s} c g r e = let v : Follows f g s r = rw e refl in (v, c.carries g r v)

-- And where they ask the query q: it is what is made of the boundary's answer a.
pub asked : {N X Y : Type 0} {f : N → Meaning} {k : Result X NumberFault → Y} {s : Steps N (Result X NumberFault)} {t : Steps Meaning Y} → Carries f k s t
    → (g : Gamut) (o : Ops N) (traced : N → Option (ℕ × ℕ)) {q : Query N} (next : ChromaValues N → Result X NumberFault) {a : Result (ChromaValues N) NumberFault} (r : Result X NumberFault)
    → s ≡ asks q (λ v. and_then (admitted o traced q.lightness v) next)
    → (v : ChromaValues N) × (map_values f v ≡ g (map_query f q)) × (a ≡ admitted o traced q.lightness v)
    → r ≡ and_then a next → Follows f g s r × (k r ≡ run g t)
asked {f = f} {s = s} c g o traced next r e w h = let v : Follows f g s r = rw e (w.0, w.1, h ∙ ap (λ x. and_then x next) w.2) in (v, c.carries g r v)

-- An answer of steps that go on with p is p of an answer of the steps.
pub follows_then : {N X Y : Type 0} (f : N → Meaning) (g : Gamut) (p : X → Y) (s : Steps N X) (r : Y) → Follows f g (then_step p s) r → (x : X) × Follows f g s x × (r ≡ p x)
follows_then f g p (ends x) r h = (x, refl, h)
follows_then f g p (asks q next) r h = (next h.0, (h.0, h.1, refl), h.2)

pub run_then : {X Y : Type 0} (g : Gamut) (p : X → Y) (t : Steps Meaning X) → run g (then_step p t) ≡ p (run g t)
run_then g p (ends x) = refl
run_then g p (asks q next) = refl

pub carries_then : {N X Y X' Y' : Type 0} {f : N → Meaning} {k : X → Y} {s : Steps N X} {t : Steps Meaning Y} (k' : X' → Y') (p : X → X') (q : Y → Y')
    → ((x : X) → k' (p x) ≡ q (k x)) → Carries f k s t → Carries f k' (then_step p s) (then_step q t)
carries_then {f = f} {s = s} {t = t} k' p q e c = record {
  carries = λ g r h.
      let w = follows_then f g p s r h in
      ap k' w.2 ∙ e w.0 ∙ ap q (c.carries g w.0 w.1) ∙ sym (run_then g q t);
}
