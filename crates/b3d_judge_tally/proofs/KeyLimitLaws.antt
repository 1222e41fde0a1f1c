-- Each row but a key takes eight bytes of the copy or more, so that no table but that of the keys can pass the row limit within the file size.
use mathlib.Core.Path.{subst}
use Prim.Native.Nat.{ℕ, zero, suc, ◌+◌, ◌*◌, ◌≤◌}
use native.Mathlib.Nat.{mul-le-mul_left}
use native.Mathlib.Omega.{arith}
use mathlib.Core.List.{List, [], ◌∷◌}
use lib.ListN.{length}
use Rattle.wire.specs.Bytes.{AllBytes}
use Rattle.b3d_spec.specs.declared.Mode.{Mode}
use Rattle.b3d_spec.specs.Answers.{copy}
use Rattle.b3d_spec.specs.Rules.{vertex_words}
use Rattle.b3d_spec.specs.Scene.{TriangleSet, Kind, pivot, mesh, bone, Keys, Anim, no_anim, anim, Forest, no_nodes, node, Scene}
use Rattle.b3d_spec.proofs.Laws.{fine}
use Rattle.b3d_spec.proofs.TwoModeLaws.{mode_got}
use Rattle.b3d_spec.proofs.Files.FileLaws.{parse-size}
use Rattle.b3d_spec.proofs.Files.NameLaws.{cleared-short}
use Rattle.b3d_judge_tally.specs.OnlyKeys.{OnlyKeys}
use Rattle.b3d_judge_tally.specs.Tally.{no_tally, bytes_tally, texs_of, brus_of, head_tally, vertices_tally, triangles_tally, weights_tally, keys_tally, plus, list_tally, lists_tally, anim_tally, bone_tally, set_tally, sets_tally, mesh_tally, kind_tally, data_tally, forest_tally, texs_tally, brus_tally, scene_tally}
use Rattle.b3d_judge_tally.specs.declared.Tally.{Tally}
use Rattle.b3d_judge_tally.proofs.TotalLaws.{total}

-- the rows but the keys
abbrev others : Tally → ℕ
others t = t.textures + t.brushes + t.nodes + t.meshes + t.vertices + t.sets + t.triangles + t.weights + t.lists

abbrev Eight : Tally → Type 0
Eight t = 8 * others t ≤ t.copy

eight-plus : (a b : Tally) → Eight a → Eight b → Eight (plus a b)
unfolding plus
eight-plus a b h k = omega arith

eight_texs : (n : ℕ) → Eight (texs_of n)
unfolding texs_of no_tally
eight_texs zero = omega arith
eight_texs (suc n) = omega arith

eight_brus : (slots n : ℕ) → Eight (brus_of slots n)
unfolding brus_of no_tally
eight_brus slots zero = omega arith
eight_brus slots (suc n) = let h : 29 ≤ 29 + 4 * slots = omega arith in omega (arith, mul-le-mul_left (suc n) h)

three : (flags sets size : ℕ) → 3 ≤ vertex_words flags sets size
unfolding vertex_words
three flags sets size = omega arith

eight-vertices : (n words : ℕ) → 3 ≤ words → Eight (vertices_tally n words)
unfolding vertices_tally
eight-vertices n words h = let k : 12 ≤ 4 * words = omega arith in omega (arith, mul-le-mul_left n k)

eight-lists : (l : List Keys) → Eight (lists_tally l)
unfolding lists_tally list_tally no_tally keys_tally
eight-lists [] = omega arith
eight-lists (k ∷ l) = eight-plus _ (lists_tally l) (omega arith) (eight-lists l)

eight-sets : (l : List TriangleSet) → Eight (sets_tally l)
unfolding sets_tally set_tally no_tally triangles_tally
eight-sets [] = omega arith
eight-sets (x ∷ l) = eight-plus _ (sets_tally l) (omega arith) (eight-sets l)

eight-anim : (a : Anim) → Eight (anim_tally a)
unfolding anim_tally no_tally bytes_tally
eight-anim no_anim = omega arith
eight-anim (anim ws) = omega arith

eight-kind : (k : Kind) → Eight (kind_tally k)
unfolding kind_tally no_tally mesh_tally bone_tally weights_tally
eight-kind pivot = omega arith
eight-kind (mesh m) = eight-plus (vertices_tally _ _) (sets_tally m.triangle_sets) (eight-vertices _ _ (three m.flags m.sets m.size)) (eight-sets m.triangle_sets)
eight-kind (bone ws) = omega arith

eight-head : Eight head_tally
unfolding head_tally
eight-head = omega arith

eight-forest : (f : Forest) → Eight (forest_tally f)
unfolding forest_tally no_tally data_tally
eight-forest no_nodes = omega arith
eight-forest (node d f g) =
    eight-plus _ (forest_tally g)
    (eight-plus _ (forest_tally f)
    (eight-plus (plus head_tally (kind_tally d.kind)) (plus (lists_tally d.keys) (anim_tally d.anim))
    (eight-plus head_tally (kind_tally d.kind) eight-head (eight-kind d.kind))
    (eight-plus (lists_tally d.keys) (anim_tally d.anim) (eight-lists d.keys) (eight-anim d.anim)))
    (eight-forest f))
    (eight-forest g)

-- and the file's header and version twelve
eight-scene : (t : Scene) → 12 + 8 * others (scene_tally t) ≤ (scene_tally t).copy
unfolding scene_tally plus bytes_tally texs_tally brus_tally
eight-scene t = omega (arith, eight_texs (length t.textures), eight_brus t.slots (length t.brushes), eight-forest t.nodes)

pub only-keys : (mode : Mode) (s : List ℕ) → AllBytes s → OnlyKeys mode s
unfolding copy
only-keys mode s b t e =
    let f = fine mode s t b e in
    let n = parse-size s t (mode_got mode s t e).0 in
    let h = subst (λ (x : Tally). 12 + 8 * others x ≤ x.copy) (total t f.0) (eight-scene t) in
    let k = cleared-short t in
    let l = f.1 in
    (omega arith, (omega arith, (omega arith, (omega arith, (omega arith, (omega arith, (omega arith, (omega arith, (omega arith, tt)))))))))
