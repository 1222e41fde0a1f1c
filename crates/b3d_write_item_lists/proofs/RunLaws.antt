-- Rows of sets and of key lists as runs.
use mathlib.Core.Path.{◌≡◌, refl, ap₂, ◌∙◌}
use Prim.Native.Nat.{ℕ, ◌+◌, ◌/◌, ◌≤◌}
use mathlib.Core.Bool.{Bool, true, false}
use mathlib.Core.List.{List, [], ◌∷◌, ◌++◌, map}
use lib.ListN.{length, take, drop, get_or}
use Rattle.wire.specs.Bytes.{bytes}
use Rattle.layout.specs.Write.{write_words, write_items, write_chunks}
use Rattle.shared_output.proofs.PartLaws.{chunk-is}
use Rattle.shared_output.proofs.AppendLaws.{chunks-cons}
use Rattle.b3d_spec.specs.Encode.{write_triangles, set_chunks, write_keys, key_chunks}
use Rattle.b3d_spec.specs.Mask.{present_words, key_mask}
use Rattle.b3d_spec.specs.Rebuild.{sets_from, keys_from}
use Rattle.b3d_spec.specs.Tags.{code}
use Rattle.b3d_spec.specs.declared.Tag.TheVariants.{TRIS, KEYS}
use Rattle.b3d_write_row_runs.specs.Lent.{rows_in}
use Rattle.b3d_write_items.specs.Chunks.{set_bytes}
use Rattle.b3d_write_item_lists.specs.Runs.{list_bytes, sets_bytes, lists_bytes, run_width, run_bytes, runs_bytes}
use Rattle.b3d_write_item_lists.proofs.GroupByGroupLaws.{each_run}

sets_runs : (xs ts : List (List ℕ)) → sets_bytes xs ts ≡ each_run set_bytes xs ts
unfolding sets_from write_chunks each_run write_triangles
sets_runs [] ts = refl
sets_runs (x ∷ xs) ts =
    let n = get_or x 3 0 in
    chunks-cons code (record { tag = TRIS; body = write_triangles (record { brush = get_or x 1 0; triangles = take n ts }) }) (set_chunks (sets_from xs (drop n ts)))
    ∙ ap₂ ◌++◌ (chunk-is code TRIS (bytes (get_or x 1 0) []) (write_items write_words (take n ts))) (sets_runs xs (drop n ts))

lists_runs : (xs ks : List (List ℕ)) → lists_bytes xs ks ≡ each_run list_bytes xs ks
unfolding keys_from write_chunks each_run write_keys
lists_runs [] ks = refl
lists_runs (x ∷ xs) ks =
    let n = get_or x 3 0 in
    let f = get_or x 1 0 in
    chunks-cons code (record { tag = KEYS; body = write_keys (record { flags = f; items = map (present_words (key_mask f)) (take n ks) }) }) (key_chunks (keys_from xs (drop n ks)) [])
    ∙ ap₂ ◌++◌ (chunk-is code KEYS (bytes f []) (write_items write_words (map (present_words (key_mask f)) (take n ks)))) (lists_runs xs (drop n ks))

-- runs of either kind
pub runs_are : (keys : Bool) (xs is : List (List ℕ)) → runs_bytes keys xs is ≡ each_run (run_bytes keys) xs is
unfolding run_bytes runs_bytes
runs_are true = lists_runs
runs_are false = sets_runs

-- the same of a kind that is known
module _ (keys : Bool) (word : ℕ) (items : List ℕ) (first count : ℕ) where
  module _ (e : keys ≡ true) where
    pub list-there : first + count ≤ length items / run_width keys → first + count ≤ length items / 11
    unfolding run_width
    list-there h = rw e at h

    pub list-bytes : run_bytes keys word (take count (drop first (rows_in (run_width keys) items))) ≡ list_bytes word (take count (drop first (rows_in 11 items)))
    unfolding run_width run_bytes
    list-bytes = rw e

  module _ (e : keys ≡ false) where
    pub set_there : first + count ≤ length items / run_width keys → first + count ≤ length items / 3
    unfolding run_width
    set_there h = rw e at h

    pub set-bytes : run_bytes keys word (take count (drop first (rows_in (run_width keys) items))) ≡ set_bytes word (take count (drop first (rows_in 3 items)))
    unfolding run_width run_bytes
    set-bytes = rw e

pub ruleset run_laws = (list-there, list-bytes, set_there, set-bytes)
