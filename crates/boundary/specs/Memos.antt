-- A memo: the last accepted query with its answer, over the boundary below.
use Rattle.std.specs.Prelude.{◌≡◌, None, Some, Option}
use Rattle.number.specs.Meaning.{Meaning}
use Rattle.boundary.specs.Kept.{IsKept, MemoView}
use Rattle.boundary.specs.Query.{Gamut}
use Rattle.boundary.specs.Model.{Model}
use Rattle.boundary.specs.declared.memo.Kept.{Kept}
use Rattle.boundary.specs.declared.query.Query.{Query}

module _ {N B : Type 0} where
  abbrev pub memo_meaning : (B → Gamut) → MemoView N B → Gamut
  memo_meaning meaning m = meaning m.below

  abbrev pub memo_model : (B → Model) → MemoView N B → Model
  memo_model model m = model m.below

  abbrev pub MemoFresh : (B → Type 0) → MemoView N B → Type 0
  MemoFresh fresh m = fresh m.below × (m.kept ≡ None)

  -- A call that answers r to the query q and makes t of the memo s. Where the query is the kept one, it answers from what
  -- is kept and nothing changes, here or below; else it keeps what `next` says.
  pub record Recalls (means : N → Meaning) {A : Type 0} (from : Kept N → A) (next : A → Option (Kept N)) (s : MemoView N B) (q : Query N) (r : A) (t : MemoView N B) : Type 0 where
    pub recalled : (k : Kept N) → s.kept ≡ Some k → IsKept means k q → (r ≡ from k) × (t ≡ s)
    pub otherwise : ((k : Kept N) → s.kept ≡ Some k → ¬ IsKept means k q) → t.kept ≡ next r
