-- Pieces stand one behind the other, each at its own place.
use mathlib.Core.Path.{◌≡◌, refl, sym, subst}
use Prim.Native.Nat.{ℕ, zero, suc, ◌+◌, ◌≤◌}
use native.Mathlib.Omega.{arith}
use mathlib.Core.Option.{Option, none, some}
use mathlib.Core.List.{List, [], ◌∷◌, ◌++◌}
use lib.ListN.{length, take, drop, length-append, length-drop}
use lib.Seq.{length-take-le}
use lib.Dec.{leb, leb→le}
use Rattle.wire.specs.Bytes.{word}
use Rattle.layout.proofs.ResultLaws.{if_case}
use Rattle.b3d_spec.specs.declared.Tag.{Tag}
use Rattle.b3d_spec.specs.Tags.{tag_of}
use Rattle.b3d_mend_spec.specs.Pieces.{Pieces, none_left, spare, past, other, known, piece, pieces_in, pieces}

-- from place p up to `last`
abbrev pub Placed : ℕ → ℕ → Pieces → Type 0
Placed p last none_left = p ≡ last
Placed p last (spare i s) = (i ≡ p) × (p + length s ≡ last)
Placed p last (past i s) = i ≡ p
Placed p last (other o r) = Placed (p + length o) last r
Placed p last (known t i b r) = (i ≡ p) × Placed (p + 8 + length b) last r

piece-placed : (o : Option Tag) (p last n : ℕ) (h b : List ℕ) (r : Pieces) → length h ≡ 8 → length b ≡ n → Placed (p + 8 + n) last r → Placed p last (piece o p h b r)
unfolding piece
piece-placed none p last n h b r eh eb k = let e : p + 8 + n ≡ p + length (h ++ b) = omega (arith, length-append h b) in subst (λ (z : ℕ). Placed z last r) e k
piece-placed (some t) p last n h b r eh eb k = (refl, subst (λ (z : ℕ). Placed (p + 8 + z) last r) (sym eb) k)

in_placed : (f p last : ℕ) (s : List ℕ) → length s ≤ f → p + length s ≡ last → Placed p last (pieces_in f p s)
unfolding pieces_in
in_placed zero p last [] h e = omega arith
in_placed zero p last (c ∷ s) h e = absurd (omega arith)
in_placed (suc f) p last [] h e = omega arith
in_placed (suc f) p last (a ∷ []) h e = (refl, e)
in_placed (suc f) p last (a ∷ b ∷ []) h e = (refl, e)
in_placed (suc f) p last (a ∷ b ∷ c ∷ []) h e = (refl, e)
in_placed (suc f) p last (a ∷ b ∷ c ∷ d ∷ []) h e = (refl, e)
in_placed (suc f) p last (a ∷ b ∷ c ∷ d ∷ i ∷ []) h e = (refl, e)
in_placed (suc f) p last (a ∷ b ∷ c ∷ d ∷ i ∷ j ∷ []) h e = (refl, e)
in_placed (suc f) p last (a ∷ b ∷ c ∷ d ∷ i ∷ j ∷ k ∷ []) h e = (refl, e)
in_placed (suc f) p last (a ∷ b ∷ c ∷ d ∷ i ∷ j ∷ k ∷ m ∷ s) h e =
    let n = word i j k m in
    if_case (Placed p last) (leb n (length s)) _ _
    (λ t. let le = leb→le n (length s) t in
    piece-placed (tag_of (word a b c d)) p last n (a ∷ b ∷ c ∷ d ∷ i ∷ j ∷ k ∷ m ∷ []) (take n s) (pieces_in f (p + 8 + n) (drop n s)) refl (length-take-le n s le)
    (in_placed f (p + 8 + n) last (drop n s) (omega (arith, length-drop n s)) (omega (arith, length-drop n s))))
    (λ t. refl)

pub pieces-placed : (p last : ℕ) (s : List ℕ) → p + length s ≡ last → Placed p last (pieces p s)
unfolding pieces
pieces-placed p last s e = in_placed (length s) p last s (omega arith) e
