-- What encloses a place where a header is due is one chunk only, so the two kinds of 3 are apart.
use mathlib.Core.Logic.{◌⊎◌, inl, inr}
use mathlib.Core.Path.{◌≡◌, ap, sym, ◌∙◌, subst}
use Prim.Native.Nat.{ℕ, zero, suc, ◌+◌, ◌-◌, ◌<◌, ◌≤◌}
use native.Mathlib.Omega.{arith}
use mathlib.Core.Option.{some}
use mathlib.Core.List.{List}
use lib.ListN.{drop, length-take}
use lib.Dec.{ltb, ltb→lt, nltb→le}
use Rattle.layout.specs.Parts.{Name, Step}
use Rattle.layout.proofs.ResultLaws.{by_test, got_inj}
use Rattle.b3d_spec.specs.declared.Tag.{Tag}
use Rattle.b3d_spec.specs.declared.Tag.TheVariants.{BB3D, TEXS, BRUS, NODE, MESH, VRTS, TRIS, BONE, KEYS, ANIM}
use Rattle.b3d_spec.specs.Rules.{node_row}
use Rattle.b3d_rule_refusal_places.specs.ByHeaders.{tag_at, end_of, part, Begin}
use Rattle.b3d_rule_refusal_places.proofs.FaultSearchLaws.{begin-later}
use Rattle.b3d_rule_refusal_places.proofs.FixedDataLaws.{named-onward}
use Rattle.b3d_mend_faults.specs.Headers.{Due, first, behind, inside, Spare, Past}

order-of : (a b : ℕ) → (a < b) ⊎ ((a ≡ b) ⊎ (b < a))
order-of a b =
    by_test (ltb a b) (λ t. inl (ltb→lt a b t)) (λ t. let x = nltb→le a b t in
    by_test (ltb b a) (λ u. inr (inr (ltb→lt b a u))) (λ u. let y = nltb→le b a u in inr (inl (omega arith))))

module _ (s : List ℕ) where
  begin-same : (t : Tag) (p q b c : ℕ) → Begin s t p q b → Begin s t p q c → b ≡ c
  begin-same BB3D p q b c g h = absurd g
  begin-same TEXS p q b c g h = absurd g
  begin-same BRUS p q b c g h = absurd g
  begin-same NODE p q b c g h = g.2 ∙ ap (λ (x : Step (Name × List ℕ)). x.place) (got_inj (sym g.1 ∙ h.1)) ∙ sym h.2
  begin-same MESH p q b c g h = g.0 ∙ sym h.0
  begin-same VRTS p q b c g h = absurd g
  begin-same TRIS p q b c g h = absurd g
  begin-same BONE p q b c g h = absurd g
  begin-same KEYS p q b c g h = absurd g
  begin-same ANIM p q b c g h = absurd g

  begin-inside : (t : Tag) (p q b : ℕ) → p ≤ q → Begin s t p q b → b ≤ q
  begin-inside BB3D p q b l g = absurd g
  begin-inside TEXS p q b l g = absurd g
  begin-inside BRUS p q b l g = absurd g
  begin-inside NODE p q b l g = let o = named-onward node_row p (part s p q) g.0 g.1 in omega (arith, o.same, g.2, length-take (q - p) (drop p s))
  begin-inside MESH p q b l g = g.1
  begin-inside VRTS p q b l g = absurd g
  begin-inside TRIS p q b l g = absurd g
  begin-inside BONE p q b l g = absurd g
  begin-inside KEYS p q b l g = absurd g
  begin-inside ANIM p q b l g = absurd g

  due_late : (h last : ℕ) → Due s h last → 12 ≤ h
  due_late h last (first _ _ e _) = omega arith
  due_late h last (behind _ _ c d f e) = omega (arith, due_late c last d, e)
  due_late h last (inside _ _ c m t d f g b e) = omega (arith, due_late c m d, begin-later s t (c + 8) (end_of s c) h b)

  -- what is due inside the chunk at c, at place h, up to `last`: it comes behind the fixed data, and ends no later than the chunk
  record In (c h last : ℕ) : Type 0 where
    kind : Tag
    begin : ℕ
    tag : tag_at s c ≡ some kind
    fixed : Begin s kind (c + 8) (end_of s c) begin
    later : begin ≤ h
    ends : last ≤ end_of s c

  tags-same : {t u : Tag} → some t ≡ some u → t ≡ u
  tags-same e = cc

  -- the fixed data of one chunk ends at one place
  begin-of : (c h last : ℕ) (x : In c h last) (t : Tag) (b : ℕ) → tag_at s c ≡ some t → Begin s t (c + 8) (end_of s c) b → x.begin ≡ b
  begin-of c h last x t b e g = begin-same t (c + 8) (end_of s c) x.begin b (subst (λ (u : Tag). Begin s u (c + 8) (end_of s c) x.begin) (tags-same (sym x.tag ∙ e)) x.fixed) g

  nested : (n c h most last : ℕ) → h < n → Due s c most → end_of s c ≤ most → Due s h last → c < h → h < end_of s c → In c h last
  nested zero c h most last l d f k a b = absurd (omega arith)
  nested (suc n) c h most last l d f (first _ _ e _) a b = absurd (omega (arith, due_late c most d))
  nested (suc n) c h most last l d f (behind _ _ q k i e) a b = elim (order-of c q) [
    | inl z ↦ let x = nested n c q most last (omega arith) d f k z (omega arith) in
        record { kind = x.kind; begin = x.begin; tag = x.tag; fixed = x.fixed; later = omega (arith, x.later); ends = x.ends }
    | inr y ↦ elim y [
      | inl z ↦ let w : end_of s q ≡ end_of s c = ap (end_of s) (sym z) in absurd (omega arith)
      | inr z ↦ let x = nested n q c last most (omega arith) k i d z (omega arith) in absurd (omega (arith, x.ends))
    ]
  ]
  nested (suc n) c h most last l d f (inside _ _ q m t k i g b₁ e) a b = elim (order-of c q) [
    | inl z ↦ let x = nested n c q most m (omega (arith, begin-later s t (q + 8) (end_of s q) h b₁)) d f k z (omega (arith, begin-later s t (q + 8) (end_of s q) h b₁)) in
        record { kind = x.kind; begin = x.begin; tag = x.tag; fixed = x.fixed; later = omega (arith, x.later, begin-later s t (q + 8) (end_of s q) h b₁); ends = omega (arith, x.ends) }
    | inr y ↦ elim y [
      | inl z ↦ subst (λ (v : ℕ). In v h last) (sym z) (record { kind = t; begin = h; tag = g; fixed = b₁; later = omega arith; ends = omega arith })
      | inr z ↦ let x = nested n q c m most (omega arith) k i d z (omega (arith, begin-inside t (q + 8) (end_of s q) h (omega arith) b₁)) in
          absurd (omega (arith, x.later, begin-of q c most x t h g b₁))
    ]
  ]

  -- the chunk at q begins before the place h that is due behind the chunk at c, or inside it: then h is not due inside that one
  no_two : (c q h most last : ℕ) (t : Tag) → Due s c most → end_of s c ≤ most → Due s q last → c < q → q < end_of s c → tag_at s c ≡ some t → Begin s t (c + 8) (end_of s c) h → h ≤ q
  no_two c q h most last t d f k a b e g = let x = nested (suc q) c q most last (omega arith) d f k a b in omega (arith, x.later, begin-of c q last x t h e g)

  one_end : (h last end : ℕ) → Due s h last → Due s h end → h < last → h < end → last ≡ end
  one_end h last end (first _ _ e f) (first _ _ g i) a b = f ∙ sym i
  one_end h last end (first _ _ e f) (behind _ _ q k i g) a b = absurd (omega (arith, due_late q end k))
  one_end h last end (first _ _ e f) (inside _ _ q m t k i u g j) a b = absurd (omega (arith, due_late q m k, begin-later s t (q + 8) (end_of s q) h g))
  one_end h last end (behind _ _ c d f e) (first _ _ g i) a b = absurd (omega (arith, due_late c last d))
  one_end h last end (behind _ _ c d f e) (behind _ _ q k i g) a b = elim (order-of c q) [
    | inl z ↦ absurd (omega (arith, (nested (suc q) c q last end (omega arith) d f k z (omega arith)).ends))
    | inr y ↦ elim y [
      | inl z ↦ one_end c last end d (subst (λ (v : ℕ). Due s v end) (sym z) k) (omega arith) (omega arith)
      | inr z ↦ absurd (omega (arith, (nested (suc c) q c end last (omega arith) k i d z (omega arith)).ends))
    ]
  ]
  one_end h last end (behind _ _ c d f e) (inside _ _ q m t k i u g j) a b = elim (order-of c q) [
    | inl z ↦ absurd (omega (arith, begin-later s t (q + 8) (end_of s q) h g, (nested (suc q) c q last m (omega arith) d f k z (omega (arith, begin-later s t (q + 8) (end_of s q) h g))).ends))
    | inr y ↦ elim y [
      | inl z ↦ let w : end_of s q ≡ end_of s c = ap (end_of s) (sym z) in absurd (omega arith)
      | inr z ↦ absurd (omega (arith, no_two q c h m last t k i d z (omega arith) u g))
    ]
  ]
  one_end h last end (inside _ _ c m t d f u g j) (first _ _ e i) a b = absurd (omega (arith, due_late c m d, begin-later s t (c + 8) (end_of s c) h g))
  one_end h last end (inside _ _ c m t d f u g j) (behind _ _ q k i e) a b = elim (order-of c q) [
    | inl z ↦ absurd (omega (arith, no_two c q h m end t d f k z (omega arith) u g))
    | inr y ↦ elim y [
      | inl z ↦ let w : end_of s q ≡ end_of s c = ap (end_of s) (sym z) in absurd (omega arith)
      | inr z ↦ absurd (omega (arith, begin-later s t (c + 8) (end_of s c) h g, (nested (suc c) q c end m (omega arith) k i d z (omega (arith, begin-later s t (c + 8) (end_of s c) h g))).ends))
    ]
  ]
  one_end h last end (inside _ _ c m t d f u g j) (inside _ _ q n v k i w x y) a b = elim (order-of c q) [
    | inl z ↦ absurd (omega (arith, begin-later s v (q + 8) (end_of s q) h x, no_two c q h m n t d f k z (omega (arith, begin-later s v (q + 8) (end_of s q) h x)) u g))
    | inr r ↦ elim r [
      | inl z ↦ j ∙ ap (end_of s) z ∙ sym y
      | inr z ↦ absurd (omega (arith, begin-later s t (c + 8) (end_of s c) h g, no_two q c h n m v k i d z (omega (arith, begin-later s t (c + 8) (end_of s c) h g)) w x))
    ]
  ]

  pub apart : (p : ℕ) → Spare s p → Past s p → ⊥
  apart p h k = omega (arith, h.2, h.3, k.2, one_end p h.0 k.0 h.1 k.1 h.2 (omega (arith, k.2)))
