-- The eight cells put together, from those of kind and of ANIM.
use mathlib.Core.Path.{◌≡◌, refl, ap, ap₂, sym}
use Prim.Native.Nat.{ℕ}
use mathlib.Core.List.{List, [], ◌∷◌, ◌++◌}
use lib.ListN.{length, get_or}
use Rattle.wire.specs.Test.{if}
use Rattle.layout.specs.Chunks.{done, stop, chunk}
use Rattle.layout.proofs.ResultLaws.{if_yes, if_no, by_test}
use Rattle.b3d_spec.specs.declared.Counts.{Counts}
use Rattle.b3d_spec.specs.declared.Tag.TheVariants.{NODE, ANIM}
use Rattle.b3d_spec.specs.Scene.{Kind, pivot, mesh, bone, no_anim, anim}
use Rattle.b3d_spec.specs.Tables.{kind_cells, anim_cells}
use Rattle.b3d_spec.specs.Tags.{Chunks, is}
use Rattle.b3d_spec_plain_rows.specs.Plain.{plain_anim}
use Rattle.b3d_spec_plain_rows.specs.Rows.{kind_of, anim_of}
use Rattle.b3d_read_node_cells.specs.Parts.{part_cells}

-- a kind has three cells
kind-three : (k : Kind) (n : Counts) → get_or (kind_cells k n) 0 0 ∷ get_or (kind_cells k n) 1 0 ∷ get_or (kind_cells k n) 2 0 ∷ [] ≡ kind_cells k n
unfolding kind_cells
kind-three pivot n = refl
kind-three (mesh m) n = refl
kind-three (bone ws) n = refl

pub kind-long : (k : Kind) (n : Counts) → length (kind_cells k n) ≡ 3
kind-long k n = ap length (sym (kind-three k n))

-- an ANIM has four
anim-four : (cs : Chunks) → get_or (anim_cells (anim_of cs)) 0 0 ∷ get_or (anim_cells (anim_of cs)) 1 0 ∷ get_or (anim_cells (anim_of cs)) 2 0 ∷ get_or (anim_cells (anim_of cs)) 3 0 ∷ [] ≡ anim_cells (anim_of cs)
unfolding anim_of anim_cells plain_anim
anim-four done = refl
anim-four (stop n p) = refl
anim-four (chunk t p b r) =
    by_test (is t NODE) (λ y. rw (if_yes (is t NODE) no_anim (if (is t ANIM) (anim (plain_anim b)) (anim_of r)) y))
    (λ y. rw (if_no (is t NODE) no_anim (if (is t ANIM) (anim (plain_anim b)) (anim_of r)) y)
    (by_test (is t ANIM) (λ z. rw (if_yes (is t ANIM) (anim (plain_anim b)) (anim_of r) z)) (λ z. rw (if_no (is t ANIM) (anim (plain_anim b)) (anim_of r) z) (anim-four r))))

pub anim-long : (cs : Chunks) → length (anim_cells (anim_of cs)) ≡ 4
anim-long cs = ap length (sym (anim-four cs))

pub parts_are : (cs : Chunks) (below : ℕ) (n : Counts) (ks an : List ℕ) → ks ≡ kind_cells (kind_of cs) n → an ≡ anim_cells (anim_of cs)
    → get_or ks 0 0 ∷ get_or ks 1 0 ∷ get_or ks 2 0 ∷ get_or an 0 0 ∷ get_or an 1 0 ∷ get_or an 2 0 ∷ get_or an 3 0 ∷ below ∷ [] ≡ part_cells cs below n
unfolding part_cells
parts_are cs below n ks an ek ea = rw (ek, ea) (ap₂ (λ (k a : List ℕ). k ++ (a ++ (below ∷ []))) (kind-three (kind_of cs) n) (anim-four cs))
