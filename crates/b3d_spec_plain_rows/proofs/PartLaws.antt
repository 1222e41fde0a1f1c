-- Table k's rows of a node, k from 4 to 10, as those of its kind and then those of its key lists; and the counts after it.
use mathlib.Core.Path.{◌≡◌, refl, ap, ap₂, sym, ◌∙◌}
use Prim.Native.Nat.{ℕ, suc, ◌+◌, ◌-◌, ◌≤◌}
use native.Mathlib.Omega.{arith}
use mathlib.Core.List.{List, [], ◌∷◌, ◌++◌, append-nil, map}
use lib.ListN.{length, length-append, length-map}
use Rattle.wire.specs.Test.{if}
use Rattle.b3d_spec.specs.declared.Counts.{Counts}
use Rattle.b3d_spec.specs.Mask.{padded, key_mask}
use Rattle.b3d_spec.specs.Scene.{Mesh, Kind, pivot, mesh, bone, Keys, Data}
use Rattle.b3d_spec.specs.Tables.{node_tables, meshes_of, weights_of, list_rows, key_rows, mesh_rows, own_rows, with_meshes, with_node}
use Rattle.b3d_spec.proofs.Rows.TableNumberLaws.{at_table}
use Rattle.b3d_spec_plain_rows.specs.Rows.{add_node, add_weights, add_keys, current, weight_rows, list_row, key_list_rows}

unfoldable pub kind_rows : ℕ → Kind → Counts → List (List ℕ)
kind_rows k pivot n = []
kind_rows k (mesh m) n = mesh_rows k (m ∷ []) n
kind_rows k (bone ws) n = weight_rows k ws

unfoldable pub move_rows : ℕ → ℕ → ℕ → List Keys → List (List ℕ)
move_rows k i j [] = []
move_rows k i j (x ∷ xs) = key_list_rows k i j x ++ move_rows k i (j + length x.items) xs

unfoldable pub with_kind : Kind → Counts → Counts
with_kind pivot n = n
with_kind (mesh m) n = with_meshes (m ∷ []) n
with_kind (bone ws) n = add_weights ws n

unfoldable pub with_lists : List Keys → Counts → Counts
with_lists [] n = n
with_lists (x ∷ xs) n = with_lists xs (add_keys x n)

-- ---- rows

abbrev Own : ℕ → Type 0
Own k = (d : Data) (p below : ℕ) (n : Counts) → own_rows k d p below n ≡ kind_rows k d.kind n ++ move_rows k n.nodes n.keys d.keys

-- no rows of key lists
abbrev NoMoves : ℕ → Type 0
NoMoves k = (i j : ℕ) (x : Keys) → key_list_rows k i j x ≡ []

no-moves : (k : ℕ) → NoMoves k → (i j : ℕ) (xs : List Keys) → move_rows k i j xs ≡ []
unfolding move_rows
no-moves k h i j [] = refl
no-moves k h i j (x ∷ xs) = ap₂ ◌++◌ (h i j x) (no-moves k h i (j + length x.items) xs)

lists_are : (i j : ℕ) (xs : List Keys) → move_rows 9 i j xs ≡ list_rows i j xs
unfolding move_rows key_list_rows list_row if list_rows
lists_are i j [] = refl
lists_are i j (x ∷ xs) = ap (λ (l : List (List ℕ)). (i ∷ x.flags ∷ j ∷ length x.items ∷ []) ∷ l) (lists_are i (j + length x.items) xs)

keys_are : (i j : ℕ) (xs : List Keys) → move_rows 10 i j xs ≡ key_rows xs
unfolding move_rows key_list_rows if key_rows
keys_are i j [] = refl
keys_are i j (x ∷ xs) = ap (λ (l : List (List ℕ)). map (padded (key_mask x.flags)) x.items ++ l) (keys_are i (j + length x.items) xs)

-- rows of the kind only
by_kind : (k : ℕ) → NoMoves k → (kind : Kind) (n : Counts) (i j : ℕ) (xs : List Keys) (r : List (List ℕ)) → r ≡ kind_rows k kind n → r ≡ kind_rows k kind n ++ move_rows k i j xs
by_kind k h kind n i j xs r e = e ∙ sym (append-nil (kind_rows k kind n)) ∙ ap (λ (l : List (List ℕ)). kind_rows k kind n ++ l) (sym (no-moves k h i j xs))

-- of meshes
of-meshes : (k : ℕ) → NoMoves k → ((ws : List (List ℕ)) → [] ≡ weight_rows k ws) → ((d : Data) (p below : ℕ) (n : Counts) → own_rows k d p below n ≡ mesh_rows k (meshes_of d.kind) n) → Own k
unfolding kind_rows mesh_rows meshes_of
of-meshes k none light own d p below n = own d p below n ∙ by_kind k none d.kind n n.nodes n.keys d.keys _ (go d.kind)
  where
    go : (kind : Kind) → mesh_rows k (meshes_of kind) n ≡ kind_rows k kind n
    go pivot = refl
    go (mesh m) = refl
    go (bone ws) = light ws

own_8 : Own 8
unfolding own_rows if kind_rows weight_rows mesh_rows weights_of key_list_rows
own_8 d p below n = by_kind 8 (λ i j x. refl) d.kind n n.nodes n.keys d.keys _ (go d.kind)
  where
    go : (kind : Kind) → weights_of kind ≡ kind_rows 8 kind n
    go pivot = refl
    go (mesh m) = refl
    go (bone ws) = refl

-- rows of the key lists only
of-lists : (k : ℕ) → ((m : Mesh) (n : Counts) → mesh_rows k (m ∷ []) n ≡ []) → ((ws : List (List ℕ)) → weight_rows k ws ≡ [])
    → ((d : Data) (p below : ℕ) (n : Counts) → own_rows k d p below n ≡ move_rows k n.nodes n.keys d.keys) → Own k
unfolding kind_rows
of-lists k without_places light own d p below n = own d p below n ∙ ap (λ (l : List (List ℕ)). l ++ move_rows k n.nodes n.keys d.keys) (sym (go d.kind))
  where
    go : (kind : Kind) → kind_rows k kind n ≡ []
    go pivot = refl
    go (mesh m) = without_places m n
    go (bone ws) = light ws

-- of each of the tables 4 to 10
pub own-parts : (k : ℕ) → 4 ≤ k → k ≤ 10 → Own k
unfolding node_tables own_rows if weight_rows mesh_rows key_list_rows
own-parts k lo hi =
    at_table (λ j. 4 ≤ j → Own j) k (
      (λ h. absurd (omega arith)),
      (
        (λ h. of-meshes 4 (λ i j x. refl) (λ ws. refl) (λ d p below n. refl)),
        (
          (λ h. of-meshes 5 (λ i j x. refl) (λ ws. refl) (λ d p below n. refl)),
          (
            (λ h. of-meshes 6 (λ i j x. refl) (λ ws. refl) (λ d p below n. refl)),
            (
              (λ h. of-meshes 7 (λ i j x. refl) (λ ws. refl) (λ d p below n. refl)),
              (
                (λ h. own_8),
                (
                  (λ h. of-lists 9 (λ m n. refl) (λ ws. refl) (λ d p below n. sym (lists_are n.nodes n.keys d.keys))),
                  ((λ h. of-lists 10 (λ m n. refl) (λ ws. refl) (λ d p below n. sym (keys_are n.nodes n.keys d.keys))), tt),
                ),
              ),
            ),
          ),
        ),
      ),
    ) (omega arith) hi lo

-- ---- counts

abbrev counts : ℕ → ℕ → ℕ → ℕ → ℕ → ℕ → ℕ → ℕ → Counts
counts a b c d e f g h = record { nodes = a; meshes = b; vertices = c; sets = d; triangles = e; weights = f; lists = g; keys = h }

key-rows : (x : Keys) (xs : List Keys) → length (key_rows (x ∷ xs)) ≡ length x.items + length (key_rows xs)
unfolding key_rows
key-rows x xs = length-append (map (padded (key_mask x.flags)) x.items) (key_rows xs) ∙ ap (λ (n : ℕ). n + length (key_rows xs)) (length-map x.items (padded (key_mask x.flags)))

lists-counted : (xs : List Keys) (n : Counts) → with_lists xs n ≡ counts n.nodes n.meshes n.vertices n.sets n.triangles n.weights (n.lists + length xs) (n.keys + length (key_rows xs))
unfolding with_lists add_keys key_rows
lists-counted [] n =
    let a : n.lists ≡ n.lists + 0 = omega arith in
    let b : n.keys ≡ n.keys + 0 = omega arith in
    ap₂ (counts n.nodes n.meshes n.vertices n.sets n.triangles n.weights) a b
lists-counted (x ∷ xs) n =
    let a : n.lists + 1 + length xs ≡ n.lists + suc (length xs) = omega arith in
    let b : n.keys + length x.items + length (key_rows xs) ≡ n.keys + length (key_rows (x ∷ xs)) = omega (arith, key-rows x xs) in
    lists-counted xs (add_keys x n) ∙ ap₂ (counts n.nodes n.meshes n.vertices n.sets n.triangles n.weights) a b

pub node-counted : (d : Data) (n : Counts) → with_lists d.keys (with_kind d.kind (add_node n)) ≡ with_node d n
unfolding with_kind add_node add_weights with_node with_meshes meshes_of weights_of
node-counted d n = lists-counted d.keys (with_kind d.kind (add_node n)) ∙ go d.kind
  where
    go : (kind : Kind) → counts (with_kind kind (add_node n)).nodes (with_kind kind (add_node n)).meshes (with_kind kind (add_node n)).vertices (with_kind kind (add_node n)).sets (with_kind kind (add_node n)).triangles (with_kind kind (add_node n)).weights ((with_kind kind (add_node n)).lists + length d.keys) ((with_kind kind (add_node n)).keys + length (key_rows d.keys))
        ≡ counts ((with_meshes (meshes_of kind) n).nodes + 1) (with_meshes (meshes_of kind) n).meshes (with_meshes (meshes_of kind) n).vertices (with_meshes (meshes_of kind) n).sets (with_meshes (meshes_of kind) n).triangles ((with_meshes (meshes_of kind) n).weights + length (weights_of kind)) ((with_meshes (meshes_of kind) n).lists + length d.keys) ((with_meshes (meshes_of kind) n).keys + length (key_rows d.keys))
    go pivot = ap (λ (w : ℕ). counts (n.nodes + 1) n.meshes n.vertices n.sets n.triangles w (n.lists + length d.keys) (n.keys + length (key_rows d.keys))) (omega arith)
    go (mesh m) = let x = with_meshes (m ∷ []) n in ap (λ (w : ℕ). counts (x.nodes + 1) x.meshes x.vertices x.sets x.triangles w (x.lists + length d.keys) (x.keys + length (key_rows d.keys))) (omega arith)
    go (bone ws) = refl

-- the counts before the node, back from those in it
pub current-node : (n : Counts) → current (add_node n) ≡ n
unfolding current add_node
current-node n = let e : n.nodes + 1 - 1 ≡ n.nodes = omega arith in ap (λ (i : ℕ). counts i n.meshes n.vertices n.sets n.triangles n.weights n.lists n.keys) e

pub kind-node : (kind : Kind) (n : Counts) → (with_kind kind (add_node n)).nodes - 1 ≡ n.nodes
unfolding with_kind add_node add_weights with_meshes
kind-node pivot n = omega arith
kind-node (mesh m) n = omega arith
kind-node (bone ws) n = omega arith

pub kind-keys : (kind : Kind) (n : Counts) → (with_kind kind (add_node n)).keys ≡ n.keys
unfolding with_kind add_node add_weights with_meshes
kind-keys pivot n = refl
kind-keys (mesh m) n = refl
kind-keys (bone ws) n = refl
