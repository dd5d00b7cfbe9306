-- The curve's laws. Each piece is t j ÷ (1 − k t); its facts are shown once, and the two pieces are instances.
use mathlib.Core.Path.{◌≡◌, refl, sym, ap, subst, ◌∙◌}
use mathlib.Core.Logic.{inl, inr}
use mathlib.Core.Bool.{Bool, true, false, not, cond}
use Prim.Native.Nat.{ℕ}
use lib.IntN.{pos}
use lib.Dec.{T}
use Rattle.rational.specs.Algebra.{FieldOps, OrderedField}
use Rattle.rational.specs.Curve.{Three, knee, stretch, bend, unbend, low_t, low1, low2, low, high_t, high1, high2, high, curve, back, Accepted, UnitRange, CurveLaws, CurveHolds}
use Rattle.rational.proofs.Ring.{[], ◌∷◌, ring!, reads}
use Rattle.rational.proofs.Field.{field!, mul_nonzero, forms}
use Rattle.rational.proofs.Order.{Above, Least, end, gt0, ge0, free, equal!, above!, least!, nonzero, minus_zero, at_least, least_of, of_least, below_by, by_below, div_above, above_least, not_both}
use Rattle.rational.proofs.Rationals.{rational_field}

is_true : (b : Bool) → T b → b ≡ true
is_true true t = refl
is_true false t = absurd t

is_false : (b : Bool) → T (not b) → b ≡ false
is_false true t = absurd t
is_false false t = refl

module _ {F : Type 0} {o : FieldOps F} (K : OrderedField o) where
  infixl 60 ◌+◌ ◌-◌
  infixl 70 ◌*◌ ◌/◌
  abbrev ◌+◌ : F → F → F
  a + b = o.add a b

  abbrev ◌-◌ : F → F → F
  a - b = o.sub a b

  abbrev ◌*◌ : F → F → F
  a * b = o.mul a b

  abbrev ◌/◌ : F → F → F
  a / b = o.div a b

  abbrev # : ℕ → F
  # n = o.lit (pos n) 0

  -- ---- one piece: t j ÷ (1 − k t)

  module _ (j k t : F) (h : Above o j) (d : Above o (# 1 - k * t)) where
    -- j + k x = j ÷ (1 − k t), at the value x of the piece
    under : j + k * bend o j k t ≡ j / (# 1 - k * t)
    under = field! K (j ∷ k ∷ t ∷ []) (search forms depth 30) (nonzero K _ d, (nonzero K _ d, tt)) refl

    unbend-bend : unbend o j k (bend o j k t) ≡ t
    unbend-bend = field! K (j ∷ k ∷ t ∷ []) (search forms depth 30)
        (nonzero K _ d, (nonzero K _ d, (nonzero K _ (subst (Above o) (sym under) (div_above K j (# 1 - k * t) h d)), tt))) refl

    bend_least : Least o t → Least o (bend o j k t)
    bend_least g = least! K (gt0 j h (gt0 (# 1 - k * t) d (ge0 t g end))) (search forms depth 30) tt

    bend_rises : (t' : F) → Above o (# 1 - k * t') → Above o (t' - t) → Above o (bend o j k t' - bend o j k t)
    bend_rises t' d' g = subst (Above o) (sym apart) (above! K (gt0 j h (gt0 (# 1 - k * t) d (gt0 (# 1 - k * t') d' (gt0 (t' - t) g end)))) (search forms depth 30) tt)
      where
        apart : bend o j k t' - bend o j k t ≡ j * (t' - t) / ((# 1 - k * t') * (# 1 - k * t))
        apart = field! K (j ∷ k ∷ t ∷ t' ∷ []) (search forms depth 30) (nonzero K _ d', (nonzero K _ d, (mul_nonzero K _ _ (nonzero K _ d') (nonzero K _ d), tt))) refl

  -- with k = 1 − j ÷ w the piece goes from 0 at 0 to w at 1
  module _ (j w : F) (h : Above o j) (g : Above o w) where
    divisor : (t : F) → Least o t → Least o (# 1 - t) → Above o (# 1 - (# 1 - j / w) * t)
    divisor t p q = subst (Above o) (sym mixed) (go p)
      where
        mixed : # 1 - (# 1 - j / w) * t ≡ ((# 1 - t) * w + t * j) / w
        mixed = equal! K (gt0 j h (gt0 w g (free t end))) (search forms depth 30) tt refl

        go : Least o t → Above o (((# 1 - t) * w + t * j) / w)
        go (inl p) = above! K (gt0 j h (gt0 w g (gt0 t p (ge0 (# 1 - t) q end)))) (search forms depth 30) tt
        go (inr e) = above! K (gt0 j h (gt0 w g (ge0 t (inr e) (gt0 (# 1 - t) (subst (Above o) (sym (ap (λ z. # 1 - z) e ∙ minus_zero K (# 1))) K.one_above) end)))) (search forms depth 30) tt

    bend-one : bend o j (# 1 - j / w) (# 1) ≡ w
    bend-one = equal! K (gt0 j h (gt0 w g end)) (search forms depth 30) tt refl

    -- (w − x) ÷ (1 − t) = w ÷ (1 − k t)
    chord : (t : F) → Above o (# 1 - t) → Above o (# 1 - (# 1 - j / w) * t) → (w - bend o j (# 1 - j / w) t) / (# 1 - t) ≡ w / (# 1 - (# 1 - j / w) * t)
    chord t u d = field! K (j ∷ w ∷ t ∷ []) (search forms depth 30) (nonzero K w g, (nonzero K _ d, (nonzero K _ u, (nonzero K w g, (nonzero K _ d, tt))))) refl

  -- ---- the curve

  module _ (c : Three F) (ok : Accepted o c) where
    zero_above : Above o c.zero
    zero_above = ok.0

    mid_above : Above o c.mid
    mid_above = ok.1

    rest_above : Above o (c.max - c.mid)
    rest_above = by_below K c.mid c.max ok.2

    low1_above : Above o (low1 o c)
    low1_above = above! K (gt0 c.zero zero_above end) (search forms depth 30) tt

    high1_above : Above o (high1 o c)
    high1_above = above! K (gt0 c.zero zero_above (gt0 c.mid mid_above end)) (search forms depth 30) tt

    -- t is in 0 .. 1, where s is below 0.8, and where it is not
    low_least : (s : F) → Least o s → Least o (low_t o c s)
    low_least s p = least! K (ge0 s p end) (search forms depth 30) tt

    low_most : (s : F) → Above o (knee o - s) → Above o (# 1 - low_t o c s)
    low_most s q = subst (Above o) scaled (above! K (gt0 (knee o - s) q end) (search forms depth 30) tt)
      where
        scaled : stretch o * (knee o - s) ≡ # 1 - low_t o c s
        scaled = equal! K (free s end) (search forms depth 30) tt refl

    high_is : (s : F) → high_t o c s ≡ # 5 * (s - knee o)
    high_is s = equal! K (free s end) (search forms depth 30) tt refl

    high_least : (s : F) → Least o (s - knee o) → Least o (high_t o c s)
    high_least s p = subst (Least o) (sym (high_is s)) (least! K (ge0 (s - knee o) p end) (search forms depth 30) tt)

    high_most : (s : F) → Least o (# 1 - s) → Least o (# 1 - high_t o c s)
    high_most s p = subst (Least o) scaled (least! K (ge0 (# 1 - s) p end) (search forms depth 30) tt)
      where
        scaled : # 5 * (# 1 - s) ≡ # 1 - high_t o c s
        scaled = equal! K (free s end) (search forms depth 30) tt refl

    low_divisor : (s : F) → Least o s → Above o (knee o - s) → Above o (# 1 - low2 o c * low_t o c s)
    low_divisor s p q = divisor (low1 o c) c.mid low1_above mid_above (low_t o c s) (low_least s p) (inl (low_most s q))

    high_divisor : (s : F) → Least o (s - knee o) → Least o (# 1 - s) → Above o (# 1 - high2 o c * high_t o c s)
    high_divisor s p q = divisor (high1 o c) (c.max - c.mid) high1_above rest_above (high_t o c s) (high_least s p) (high_most s q)

    -- below 0.8 the curve is below mid, and from there on it is not
    low_below : (s : F) → Least o s → Above o (knee o - s) → Above o (c.mid - low o c s)
    low_below s p q = subst (λ z. Above o (z - low o c s)) (bend-one (low1 o c) c.mid low1_above mid_above)
        (bend_rises (low1 o c) (low2 o c) (low_t o c s) low1_above (low_divisor s p q) (# 1)
        (divisor (low1 o c) c.mid low1_above mid_above (# 1) (inl K.one_above) (inr (ring! K.laws [] (search reads) refl))) (low_most s q))

    -- the upper piece above mid
    rise : F → F
    rise s = bend o (high1 o c) (high2 o c) (high_t o c s)

    high_rest : (s : F) → high o c s - c.mid ≡ rise s
    unfolding rise
    high_rest s = ring! K.laws (c.mid ∷ rise s ∷ []) (search reads depth 30) refl

    high_from : (s : F) → Least o (s - knee o) → Least o (# 1 - s) → Least o (high o c s - c.mid)
    unfolding rise
    high_from s p q = subst (Least o) (sym (high_rest s)) (bend_least (high1 o c) (high2 o c) (high_t o c s) high1_above (high_divisor s p q) (high_least s p))

    -- what the tests say
    from_0 : (s : F) → UnitRange o c s → Least o s
    from_0 s g = at_least K s g.0

    to_1 : (s : F) → UnitRange o c s → Least o (# 1 - s)
    to_1 s g = least_of K (# 1) s g.1

    below-knee : (s : F) → o.below s (knee o) ≡ true → Above o (knee o - s)
    below-knee s e = by_below K s (knee o) (subst T (sym e) tt)

    from_knee : (s : F) → o.below s (knee o) ≡ false → Least o (s - knee o)
    from_knee s e = least_of K s (knee o) (subst (λ b. T (not b)) (sym e) tt)

    at_0 : curve o c (# 0) ≡ # 0
    at_0 = ap (λ b. cond b (low o c (# 0)) (high o c (# 0))) (is_true _ (below_by K (# 0) (knee o) (above! K end (search forms depth 30) tt)))
        ∙ equal! K (gt0 c.zero zero_above (gt0 c.mid mid_above end)) (search forms depth 30) tt refl

    at_knee : curve o c (knee o) ≡ c.mid
    at_knee = ap (λ b. cond b (low o c (knee o)) (high o c (knee o))) (is_false _ (of_least K (knee o) (knee o) (inr (equal! K end (search forms depth 30) tt refl))))
        ∙ equal! K (gt0 c.zero zero_above (gt0 c.mid mid_above (free (high2 o c) end))) (search forms depth 30) tt refl

    at_1 : curve o c (# 1) ≡ c.max
    at_1 = ap (λ b. cond b (low o c (# 1)) (high o c (# 1))) (is_false _ (of_least K (# 1) (knee o) (inl (above! K end (search forms depth 30) tt))))
        ∙ ap (λ t. c.mid + bend o (high1 o c) (high2 o c) t) full
        ∙ ap (o.add c.mid) (bend-one (high1 o c) (c.max - c.mid) high1_above rest_above)
        ∙ ring! K.laws (c.mid ∷ c.max ∷ []) (search reads depth 30) refl
      where
        full : high_t o c (# 1) ≡ # 1
        full = equal! K end (search forms depth 30) tt refl

    rises : (s s' : F) → UnitRange o c s → UnitRange o c s' → T (o.below s s') → T (o.below (curve o c s) (curve o c s'))
    rises s s' g g' t = below_by K (curve o c s) (curve o c s') (go (o.below s (knee o)) (o.below s' (knee o)) refl refl)
      where
        step : Above o (s' - s)
        step = by_below K s s' t

        low_step : Above o (low_t o c s' - low_t o c s)
        low_step = subst (Above o) (scaled s s') (above! K (gt0 (s' - s) step end) (search forms depth 30) tt)
          where
            scaled : (s s' : F) → stretch o * (s' - s) ≡ low_t o c s' - low_t o c s
            scaled s s' = equal! K (free s (free s' end)) (search forms depth 30) tt refl

        high-step : Above o (high_t o c s' - high_t o c s)
        high-step = subst (Above o) (scaled s s') (above! K (gt0 (s' - s) step end) (search forms depth 30) tt)
          where
            scaled : (s s' : F) → # 5 * (s' - s) ≡ high_t o c s' - high_t o c s
            scaled s s' = equal! K (free s (free s' end)) (search forms depth 30) tt refl

        through : (m a b : F) → (m - a) + (b - m) ≡ b - a
        through m a b = ring! K.laws (m ∷ a ∷ b ∷ []) (search reads depth 30) refl

        lift : (m a b : F) → b - a ≡ (m + b) - (m + a)
        lift m a b = ring! K.laws (m ∷ a ∷ b ∷ []) (search reads depth 30) refl

        turn : (m a b : F) → (m - a) + (b - m) ≡ o.neg (a - b)
        turn m a b = ring! K.laws (m ∷ a ∷ b ∷ []) (search reads depth 30) refl

        go : (b b' : Bool) → o.below s (knee o) ≡ b → o.below s' (knee o) ≡ b' → Above o (cond b' (low o c s') (high o c s') - cond b (low o c s) (high o c s))
        go true true e e' = bend_rises (low1 o c) (low2 o c) (low_t o c s) low1_above (low_divisor s (from_0 s g) (below-knee s e))
            (low_t o c s') (low_divisor s' (from_0 s' g') (below-knee s' e')) low_step
        go true false e e' = subst (Above o) (through c.mid (low o c s) (high o c s'))
            (above_least K _ _ (low_below s (from_0 s g) (below-knee s e)) (high_from s' (from_knee s' e') (to_1 s' g')))
        go false true e e' = absurd (not_both K (s' - s) step (subst (Above o) (turn (knee o) s' s) (above_least K _ _ (below-knee s' e') (from_knee s e))))
        go false false e e' = subst (Above o) (lift c.mid (bend o (high1 o c) (high2 o c) (high_t o c s)) (bend o (high1 o c) (high2 o c) (high_t o c s')))
            (bend_rises (high1 o c) (high2 o c) (high_t o c s) high1_above (high_divisor s (from_knee s e) (to_1 s g))
            (high_t o c s') (high_divisor s' (from_knee s' e') (to_1 s' g')) high-step)

    -- the lower piece is taken exactly where the chroma is below mid
    lower : (s : F) → UnitRange o c s → o.below (curve o c s) c.mid ≡ o.below s (knee o)
    lower s g = go (o.below s (knee o)) refl
      where
        go : (b : Bool) → o.below s (knee o) ≡ b → o.below (cond b (low o c s) (high o c s)) c.mid ≡ b
        go true e = is_true _ (below_by K (low o c s) c.mid (low_below s (from_0 s g) (below-knee s e)))
        go false e = is_false _ (of_least K (high o c s) c.mid (high_from s (from_knee s e) (to_1 s g)))

    returns : (s : F) → UnitRange o c s → back o c (curve o c s) ≡ s
    unfolding rise
    returns s g = go (o.below s (knee o)) refl
      where
        -- the way back at x, by the test
        by : Bool → F → F
        by b x = cond b (knee o * unbend o (low1 o c) (low2 o c) x) (knee o + (# 1 - knee o) * unbend o (high1 o c) (high2 o c) (x - c.mid))

        low_home : (s : F) → knee o * low_t o c s ≡ s
        low_home s = equal! K (free s end) (search forms depth 30) tt refl

        high_home : (s : F) → knee o + (# 1 - knee o) * high_t o c s ≡ s
        high_home s = equal! K (free s end) (search forms depth 30) tt refl

        go : (b : Bool) → o.below s (knee o) ≡ b → back o c (cond b (low o c s) (high o c s)) ≡ s
        go true e = ap (λ b. by b (low o c s)) (is_true _ (below_by K (low o c s) c.mid (low_below s (from_0 s g) (below-knee s e))))
            ∙ ap (o.mul (knee o)) (unbend-bend (low1 o c) (low2 o c) (low_t o c s) low1_above (low_divisor s (from_0 s g) (below-knee s e)))
            ∙ low_home s
        go false e = ap (λ b. by b (high o c s)) (is_false _ (of_least K (high o c s) c.mid (high_from s (from_knee s e) (to_1 s g))))
            ∙ ap (λ x. knee o + (# 1 - knee o) * unbend o (high1 o c) (high2 o c) x) (high_rest s)
            ∙ ap (λ x. knee o + (# 1 - knee o) * x) (unbend-bend (high1 o c) (high2 o c) (high_t o c s) high1_above (high_divisor s (from_knee s e) (to_1 s g)))
            ∙ high_home s

    slope_below : (s : F) → UnitRange o c s → T (o.below s (knee o)) → (c.mid - curve o c s) / (knee o - s) ≡ # 5 * c.mid / (# 4 * (# 1 - low2 o c * low_t o c s))
    slope_below s g t = ap (λ b. (c.mid - cond b (low o c s) (high o c s)) / (knee o - s)) (is_true _ t)
        ∙ scale (c.mid - low o c s) s q
        ∙ ap (o.mul (stretch o)) (chord (low1 o c) c.mid low1_above mid_above (low_t o c s) (low_most s q) d)
        ∙ equal! K (gt0 c.mid mid_above (gt0 (# 1 - low2 o c * low_t o c s) d end)) (search forms depth 30) tt refl
      where
        q : Above o (knee o - s)
        q = by_below K s (knee o) t

        d : Above o (# 1 - low2 o c * low_t o c s)
        d = low_divisor s (from_0 s g) q

        scale : (x s : F) → Above o (knee o - s) → x / (knee o - s) ≡ stretch o * (x / (# 1 - low_t o c s))
        scale x s q = field! K (x ∷ s ∷ []) (search forms depth 30) (nonzero K _ q, (nonzero K _ (low_most s q), tt)) refl

    slope_above : (s : F) → UnitRange o c s → T (o.below (knee o) s) → (curve o c s - c.mid) / (s - knee o) ≡ # 5 * high1 o c / (# 1 - high2 o c * high_t o c s)
    unfolding rise
    slope_above s g t = ap (λ b. (cond b (low o c s) (high o c s) - c.mid) / (s - knee o)) (is_false _ (of_least K s (knee o) (inl q)))
        ∙ ap (λ x. x / (s - knee o)) (high_rest s ∙ ap (λ x. x * high1 o c / (# 1 - high2 o c * high_t o c s)) (high_is s))
        ∙ equal! K (gt0 (s - knee o) q (gt0 (high1 o c) high1_above (gt0 (# 1 - high2 o c * high_t o c s) (high_divisor s (inl q) (to_1 s g)) end))) (search forms depth 30) tt refl
      where
        q : Above o (s - knee o)
        q = by_below K (knee o) s t

    pub curve_laws : CurveLaws o c
    curve_laws = record {
      at_0 = at_0;
      at_knee = at_knee;
      at_1 = at_1;
      rises = rises;
      lower = lower;
      returns = returns;
      slope_below = slope_below;
      slope_above = slope_above;
      slope_below_knee = equal! K (gt0 c.zero zero_above (gt0 c.mid mid_above end)) (search forms depth 30) tt refl;
      slope_above_knee = equal! K (gt0 c.zero zero_above (gt0 c.mid mid_above (free (high2 o c) end))) (search forms depth 30) tt refl;
    }

pub curve_holds : CurveHolds
curve_holds c ok = curve_laws rational_field c ok
