-- What a memo recalls, and that what it keeps stays right.
use Rattle.std.proofs.Common.{◌≡◌, ℕ, Bool, true, false, cond, Some, None, Ok, Err, Decides, Option, refl, sym, ap, ◌∙◌, arith}
use Rattle.std.proofs.lemmas.Bool.Decides.{Decides-and, Decides-like}
use Rattle.fault.specs.declared.faults.NumberFault.TheVariants.{Boundary}
use Rattle.gamut.specs.Maps.{map_values}
use Rattle.gamut.specs.declared.chroma.ChromaValues.{ChromaValues}
use Rattle.number.specs.Meaning.{Meaning}
use Rattle.number.specs.Ops.{Ops}
use Rattle.boundary.specs.Kept.{after, recalled_from, IsKept, KeptRight}
use Rattle.boundary.specs.Query.{Gamut, map_query, same_query}
use Rattle.boundary.specs.Rule.{refuses, first_trace, admitted}
use Rattle.boundary.specs.declared.memo.Kept.{Kept}
use Rattle.boundary.specs.declared.query.Query.{Query}

module _ {N : Type 0} (o : Ops N) {means : N → Meaning} (alike : (x y : N) → Decides (o.same x y) (means x ≡ means y)) where
  -- The kind's test tells whether two queries mean the same.
  same_query-decides : (p q : Query N) → Decides (same_query o p q) (map_query means p ≡ map_query means q)
  same_query-decides p q =
      Decides-like _
      (λ e. (λ i. record { lightness = e.0 i; hue = record { a = e.1.0 i; b = e.1.1 i } }))
      (λ e. (ap (λ r. r.lightness) e, (ap (λ r. r.hue.a) e, ap (λ r. r.hue.b) e)))
      (Decides-and _ _ (alike p.lightness q.lightness) (Decides-and _ _ (alike p.hue.a q.hue.a) (alike p.hue.b q.hue.b)))

  -- Where the query is the kept one, its answer is recalled.
  pub recalled_answer : (kept : Option (Kept N)) (k : Kept N) (q : Query N) → kept ≡ Some k → IsKept means k q → recalled_from o kept q ≡ Some k.answer
  recalled_answer kept k q e is =
      ap (λ x. recalled_from o x q) e ∙ ap (λ t. cond t (Some k.answer) None) ((same_query-decides k.query q).1 is)

  -- What is recalled is the answer of the kept query.
  pub recalled_from_lem : (kept : Option (Kept N)) (q : Query N) (v : ChromaValues N) → recalled_from o kept q ≡ Some v → (k : Kept N) × (kept ≡ Some k) × IsKept means k q × (v ≡ k.answer)
  recalled_from_lem None q v e = absurd (grind arith)
  recalled_from_lem (Some k) q v e = go (same_query o k.query q) refl e
    where
      go : (t : Bool) → same_query o k.query q ≡ t → cond t (Some k.answer) None ≡ Some v → (j : Kept N) × (Some k ≡ Some j) × IsKept means j q × (v ≡ j.answer)
      go true is e = (k, refl, (same_query-decides k.query q).0 is, grind arith)
      go false is e = absurd (grind arith)

  -- A recalled answer is what the boundary below means.
  pub recalled_right : (below : Gamut) (kept : Option (Kept N)) (q : Query N) (v : ChromaValues N) → recalled_from o kept q ≡ Some v → KeptRight means below kept → map_values means v ≡ below (map_query means q)
  recalled_right below None q v e right = absurd (grind arith)
  recalled_right below (Some k) q v e right =
      let f = recalled_from_lem (Some k) q v e in
      let is : k ≡ f.0 = let j = f.1 in grind arith in
      ap (map_values means) (f.3 ∙ ap (λ j. j.answer) (sym is))
      ∙ right
      ∙ ap (λ j. below (map_query means j.query)) is
      ∙ ap below f.2

-- What is kept stays right.
pub after_right : {N : Type 0} (o : Ops N) (traced : N → Option (ℕ × ℕ)) (means : N → Meaning) (below : Gamut) (old : Option (Kept N)) (q : Query N) (v : ChromaValues N) → KeptRight means below old → map_values means v ≡ below (map_query means q) → KeptRight means below (after old q (admitted o traced q.lightness v))
after_right o traced means below old q v right is = go (refuses o q.lightness v)
  where
    go : (x : Bool) → KeptRight means below (after old q (cond x (Err (Boundary (first_trace o traced q.lightness v))) (Ok v)))
    go true = right
    go false = is
