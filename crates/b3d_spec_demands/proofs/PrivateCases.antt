-- Two files that differ in each private thing: names, passed-over chunks in BB3D, NODE and MESH, TEXS and BRUS without items, where ANIM
-- stands among KEYS. Both are accepted, and one file without these, so they are alike.
use mathlib.Core.Path.{refl}
use Prim.Native.Nat.{ℕ}
use native.Mathlib.Omega.{arith}
use mathlib.Core.List.{List, [], ◌∷◌, ◌++◌}
use lib.ListN.{replicate}
use lib.Dec.{T, ltb, ltb→lt}
use mir.Facts.{and_yes}
use Rattle.wire.specs.Bytes.{bytes, AllBytes}
use Rattle.wire.specs.Test.{if}
use Rattle.layout.specs.WellFormed.{all}
use Rattle.layout.specs.Rules.{NONE}
use Rattle.layout.specs.Write.{write_text, write_words}
use Rattle.b3d_spec.specs.declared.Tag.TheVariants.{BB3D, TEXS, BRUS, NODE, MESH, VRTS, TRIS, KEYS, ANIM}
use Rattle.b3d_spec.specs.Tags.{tag_of, write_chunk}
use Rattle.b3d_spec.proofs.Computing.{computing}
use Rattle.b3d_spec.proofs.Cases.{XTRA, Hall}
use Rattle.b3d_spec_demands.specs.Demands.{Alike}
use Rattle.b3d_spec_demands.specs.Private.{Unknown, passed_over, same, chunk, passed, later, passed-behind, no_texture, no-brush, file, mesh, node, FileWithout}
use Rattle.b3d_spec_demands.proofs.PrivacyLaws.{private}

-- a MESH's VRTS and TRIS; an ANIM; two KEYS
abbrev triangle : List ℕ
triangle = write_chunk VRTS (write_words (0 ∷ 0 ∷ 0 ∷ []) (replicate 12 7)) (write_chunk TRIS (write_words (NONE ∷ 0 ∷ 0 ∷ 0 ∷ []) []) [])

abbrev moves : List ℕ
moves = write_words (0 ∷ 10 ∷ 5 ∷ []) []

abbrev empty : List ℕ
empty = bytes 0 []

abbrev key : List ℕ
key = write_words (0 ∷ 3 ∷ []) []

abbrev one : List ℕ
one =
    bytes 1 (write_chunk TEXS [] (write_chunk BRUS (bytes 3 []) (write_chunk NODE
    (write_text Hall (replicate 40 9 ++ write_chunk MESH (bytes NONE [] ++ passed_over XTRA (1 ∷ 2 ∷ []) triangle) (write_chunk ANIM moves (passed_over XTRA [] (write_chunk KEYS key (write_chunk KEYS empty [])))))) [])))

-- what is left of the node's chunks
abbrev rest : List ℕ
rest = write_chunk MESH (bytes NONE [] ++ triangle) (write_chunk KEYS key (write_chunk KEYS empty (write_chunk ANIM moves [])))

abbrev other : List ℕ
other = bytes 1 (passed_over XTRA (5 ∷ []) (write_chunk NODE (write_text [] (replicate 40 9 ++ passed_over XTRA [] rest)) []))

abbrev left : List ℕ
left = bytes 1 (write_chunk NODE (write_text [] (replicate 40 9 ++ rest)) [])

unknown : Unknown XTRA
unfolding tag_of if
unknown = (omega arith, refl)

one_without : FileWithout (write_chunk BB3D one []) (write_chunk BB3D left [])
one_without = record {
  one = one;
  other = left;
  one_is = refl;
  other_is = refl;
  body = file (bytes 1 []) refl (no_texture (no-brush 3 (omega arith) (chunk
      (node Hall [] (replicate 40 9) (omega arith, (omega arith, (omega arith, (omega arith, tt)))) tt (omega arith) refl
      (chunk (mesh (bytes NONE []) refl (passed XTRA (1 ∷ 2 ∷ []) unknown (same {s = triangle})))
      (passed-behind moves (write_chunk KEYS key (write_chunk KEYS empty [])) XTRA [] unknown (later moves key (write_chunk KEYS empty []) (later moves empty [] same))))) (same {s = []}))));
}

other_without : FileWithout (write_chunk BB3D other []) (write_chunk BB3D left [])
other_without = record {
  one = other;
  other = left;
  one_is = refl;
  other_is = refl;
  body = file (bytes 1 []) refl (passed XTRA (5 ∷ []) unknown (chunk (node [] [] (replicate 40 9) tt tt (omega arith) refl (passed XTRA [] unknown (same {s = rest}))) (same {s = []})));
}

to-bytes : (s : List ℕ) → T (all (λ (c : ℕ). ltb c 256) s) → AllBytes s
to-bytes [] t = tt
to-bytes (c ∷ s) t = let h = and_yes (ltb c 256) (all (λ (i : ℕ). ltb i 256) s) t in (ltb→lt c 256 h.0, to-bytes s h.1)

pub alike : Alike (write_chunk BB3D one []) (write_chunk BB3D other [])
unfolding computing
alike =
    (private (write_chunk BB3D one []) (write_chunk BB3D other []) (to-bytes (write_chunk BB3D one []) tt) (to-bytes (write_chunk BB3D other []) tt)).alike (write_chunk BB3D left []) one_without other_without _ _ refl refl
