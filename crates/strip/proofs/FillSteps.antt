-- A row that is written entry by entry: a step of the loop, a refusal, and what the row means at the end.
use Rattle.std.proofs.Common.{◌≡◌, ℕ, zero, suc, ◌+◌, ◌<◌, ◌≤◌, List, [], ◌∷◌, map, length, get_or, take, drop, set, Ok, Err, Result, sym, refl, ap, ◌∙◌, subst, ap₂, add-one, arith, eq-eqb, ne_eqb}
use Rattle.std.proofs.Math.Nat.{add-zero}
use Rattle.std.proofs.lemmas.List.{length-map, take_all, drop-drop, get_or-drop}
use Rattle.fault.specs.Refusals.{placed}
use Rattle.fault.specs.declared.faults.Placed.{Placed}
use Rattle.fault.specs.declared.faults.RowFault.{RowFault}
use Rattle.fault.specs.declared.faults.RowFault.TheVariants.{Length, Entry}
use Rattle.fault.specs.declared.faults.TurnFault.{TurnFault}
use Rattle.strip.specs.Alike.{meant_turn, untraced_turn, ending}
use Rattle.strip.specs.Fills.{Each, Written, Refuses, Fills}
use Rattle.strip.specs.Rows.{Row, next, filled, row}

-- What was given its index.
pub placed_ok : {T : Type 0} (i : ℕ) (x : T) (r : Result T TurnFault) → Ok x ≡ placed i r → r ≡ Ok x
placed_ok i x (Ok y) e = cc
placed_ok i x (Err d) e = absurd cc

pub placed_err : {T : Type 0} (i : ℕ) (p : Placed) (r : Result T TurnFault) → Err p ≡ placed i r → (r ≡ Err p.fault) × (p.index ≡ i)
placed_err i p (Ok y) e = absurd cc
placed_err i p (Err d) e = let same : p ≡ record { index = i; fault = d } = cc in (ap (λ (q : Placed). Err q.fault) (sym same), ap (λ (q : Placed). q.index) same)

-- Lists that are alike from i on are alike from i + 1 on, and at i.
pub drop_next : {C : Type 0} (i : ℕ) (cs ds : List C) → drop i cs ≡ drop i ds → drop (i + 1) cs ≡ drop (i + 1) ds
drop_next i cs ds e = sym (drop-drop 1 i cs) ∙ ap (drop 1) e ∙ drop-drop 1 i ds

pub same_at : {C : Type 0} (i : ℕ) (cs ds : List C) (d : C) → drop i cs ≡ drop i ds → get_or cs i d ≡ get_or ds i d
same_at i cs ds d e = rw (add-zero i) at (sym (get_or-drop i cs 0 d) ∙ ap (λ l. get_or l 0 d) e ∙ get_or-drop i ds 0 d)

module _ {R C : Type 0} (F : R → C → Type 0) where
  each_suc : (i : ℕ) (xs : List R) (cs : List C) (x : R) (d : C) → i < length xs → length xs ≡ length cs → x ≡ get_or xs i x → F x d
      → Each F (take i xs) (take i cs) → Each F (take (suc i) xs) (take (suc i) (set cs i d))
  each_suc i [] cs x d h e read a w = absurd (omega arith)
  each_suc i (y ∷ xs) [] x d h e read a w = absurd (omega arith)
  each_suc zero (y ∷ xs) (c ∷ cs) x d h e read a w = (subst (λ z. F z d) read a, tt)
  each_suc (suc i) (y ∷ xs) (c ∷ cs) x d h e read a w = (w.0, each_suc i xs cs x d (omega arith) (omega arith) read a w.1)

  -- One entry more is written.
  pub each_more : (i : ℕ) (xs : List R) (cs : List C) (x : R) (d : C) → i < length xs → length xs ≡ length cs → x ≡ get_or xs i x → F x d
      → Each F (take i xs) (take i cs) → Each F (take (i + 1) xs) (take (i + 1) (set cs i d))
  each_more i xs cs x d h e read a w = rw add-one (each_suc i xs cs x d h e read a w)

  -- All of them are.
  pub each_all : (i : ℕ) (xs : List R) (cs : List C) → length xs ≤ i → length xs ≡ length cs → Each F (take i xs) (take i cs) → Each F xs cs
  each_all i xs cs h e w = subst (λ l. Each F l cs) (take_all i xs h) (subst (λ l. Each F (take i xs) l) (take_all i cs (omega arith)) w)

-- What holds of each pair says what the second row is by the first.
pub each_map : {X Y : Type 0} (F : X → X → Type 0) (k : X → Y) (j : Y → Y) → ((x y : X) → F x y → k y ≡ j (k x))
    → (xs ys : List X) → Each F xs ys → map k ys ≡ map j (map k xs)
each_map F k j told [] [] w = refl
each_map F k j told [] (y ∷ ys) w = elim w [ ]
each_map F k j told (x ∷ xs) [] w = elim w [ ]
each_map F k j told (x ∷ xs) (y ∷ ys) w = ap₂ (λ z zs. z ∷ zs) (told x y w.0) (each_map F k j told xs ys w.1)

module _ {R C : Type 0} (Answers : R → Result C TurnFault → Type 0) where
  -- The entry at i is refused.
  pub refused_at : (i : ℕ) (xs : List R) (x : R) (f : TurnFault) → i < length xs → x ≡ get_or xs i x → Answers x (Err f) → Refuses Answers f (drop i xs)
  refused_at i [] x f h read a = absurd (omega arith)
  refused_at zero (y ∷ xs) x f h read a = subst (λ z. Answers z (Err f)) read a
  refused_at (suc i) (y ∷ xs) x f h read a = refused_at i xs x f (omega arith) read a

  module _ {A B : Type 0} (reads : R → A) (writes : C → B) (f : A → Result B TurnFault) (told : (x : R) (a : Result C TurnFault) → Answers x a → meant_turn writes a ≡ f (reads x)) where
    all_filled : (k : ℕ) (xs : List R) (old new : List C) → length xs ≡ length old → Written Answers xs new
        → filled f k (map reads xs) (map writes old) ≡ record { ends = Ok tt; entries = map writes new }
    all_filled k [] [] [] e w = refl
    all_filled k [] [] (d ∷ ds) e w = elim w [ ]
    all_filled k [] (c ∷ cs) new e w = absurd (omega arith)
    all_filled k (x ∷ xs) [] new e w = absurd (omega arith)
    all_filled k (x ∷ xs) (c ∷ cs) [] e w = elim w [ ]
    all_filled k (x ∷ xs) (c ∷ cs) (d ∷ ds) e w =
        ap₂ (next k (writes c) (map writes cs)) (sym (told x (Ok d) w.0)) (all_filled (suc k) xs cs ds (omega arith) w.1)

    some_filled : (k i : ℕ) (t : TurnFault) (xs : List R) (old new : List C) → length xs ≡ length old → Written Answers (take i xs) (take i new)
        → Refuses Answers t (drop i xs) → drop i new ≡ drop i old
        → filled f k (map reads xs) (map writes old) ≡ record { ends = Err (Entry (record { index = i + k; fault = untraced_turn t })); entries = map writes new }
    some_filled k zero t (x ∷ xs) (c ∷ cs) new e w r s =
        ap (λ a. next k (writes c) (map writes cs) a (filled f (suc k) (map reads xs) (map writes cs))) (sym (told x (Err t) r))
        ∙ ap₂ (λ n l. let v : Row B = record { ends = Err (Entry (record { index = n; fault = untraced_turn t })); entries = map writes l } in v) (omega arith) (sym s)
    some_filled k (suc i) t (x ∷ xs) (c ∷ cs) (d ∷ ds) e w r s =
        ap₂ (next k (writes c) (map writes cs)) (sym (told x (Ok d) w.0)) (some_filled (suc k) i t xs cs ds (omega arith) w.1 r s)
        ∙ ap (λ n. let v : Row B = record { ends = Err (Entry (record { index = n; fault = untraced_turn t })); entries = map writes (d ∷ ds) } in v) (omega arith)
    some_filled k (suc i) t (x ∷ xs) (c ∷ cs) [] e w r s = elim w [ ]
    some_filled k i t (x ∷ xs) [] new e w r s = absurd (omega arith)
    some_filled k zero t [] old new e w r s = elim r [ ]
    some_filled k (suc i) t [] old new e w r s = elim r [ ]

    even : (xs : List R) (old : List C) → length xs ≡ length old → row f (map reads xs) (map writes old) ≡ filled f 0 (map reads xs) (map writes old)
    even xs old h = let e = eq-eqb (length (map reads xs)) (length (map writes old)) (length-map xs reads ∙ h ∙ sym (length-map old writes)) in rw e

    uneven : (xs : List R) (old : List C) → ¬ (length xs ≡ length old) → row f (map reads xs) (map writes old) ≡ record { ends = Err Length; entries = map writes old }
    uneven xs old h = let e = ne_eqb (length (map reads xs)) (length (map writes old)) (λ k. h (sym (length-map xs reads) ∙ k ∙ length-map old writes)) in rw e

    -- What is left in the rows means what the row's definition says of what they meant.
    pub fills_row : (xs : List R) (old new : List C) (r : Result (Unit {0}) RowFault) → Fills Answers xs old r new
        → row f (map reads xs) (map writes old) ≡ record { ends = ending r; entries = map writes new }
    fills_row xs old new (Ok u) h = even xs old h.0 ∙ all_filled 0 xs old new h.0 h.1
    fills_row xs old new (Err Length) h = uneven xs old h.0 ∙ ap (λ l. let v : Row B = record { ends = Err Length; entries = map writes l } in v) (sym h.1)
    fills_row xs old new (Err (Entry p)) h =
        even xs old h.0
        ∙ some_filled 0 p.index p.fault xs old new h.0 h.1 h.2 h.3
        ∙ ap (λ n. let v : Row B = record { ends = Err (Entry (record { index = n; fault = untraced_turn p.fault })); entries = map writes new } in v) (omega arith)
