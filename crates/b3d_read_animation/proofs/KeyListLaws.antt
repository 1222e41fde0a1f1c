-- Table 9 has a row of each KEYS: what the loop of `store_animation` knows of it.
use Rattle.std.specs.Prelude.{Some}
use Rattle.std.specs.Prelude as std
use Rattle.b3d_chunk_walk.specs.declared.FlatChunk.{FlatChunk}
use mathlib.Core.Path.{◌≡◌, refl, ap, sym, subst, ◌∙◌}
use Prim.Native.Nat.{ℕ, ◌+◌, ◌-◌, ◌*◌, ◌<◌, ◌≤◌}
use native.Mathlib.Omega.{arith}
use mathlib.Core.Bool.{Bool, true, false, not}
use mathlib.Core.List.{List}
use mir.Syntax.{w64}
use mir.Val.{Fits}
use lib.ListN.{length}
use lib.Seq.{sets}
use lib.Dec.{T}
use Rattle.wire.specs.Cursors.{left}
use Rattle.wire.specs.declared.Cursor.{Cursor}
use Rattle.wire.proofs.LeftLaws.{left-most}
use Rattle.layout.proofs.ResultLaws.{if_yes, if_no}
use Rattle.b3d_spec.specs.declared.Counts.{Counts}
use Rattle.b3d_spec.specs.declared.Tag.{Tag}
use Rattle.b3d_spec.specs.declared.Tag.TheVariants.{NODE, BONE, KEYS}
use Rattle.layout.specs.Rows.{joined}
use Rattle.b3d_spec.specs.Tables.{start}
use Rattle.b3d_spec.specs.Tags.{is}
use Rattle.b3d_spec_plain_rows.specs.Plain.{plain_keys}
use Rattle.b3d_spec_plain_rows.specs.Rows.{counted, list_row, file_rows}
use Rattle.b3d_chunk_walk.specs.Walks.{Steps}
use Rattle.b3d_chunk_walk.proofs.CountLaws.{tag_same, counted-nodes, counted-keys}
use Rattle.b3d_chunk_walk.proofs.TableLaws.{TableLeft, Any, plain_other, table_start, table_chunk, table_other, table_room, table_own}
use Rattle.b3d_read_item_rows.proofs.GroupLaws.{group-few}
use Rattle.b3d_read_animation.proofs.TableLaws.{bones, lists}

-- what is known of the counts at a place of the file
pub record AnimationLeft (at base nodes keys : ℕ) (n : Counts) : Type 0 where
  pub nodes_are : n.nodes ≡ nodes
  pub keys_are : n.keys ≡ keys
  pub few_nodes : nodes ≤ at
  pub few_keys : keys ≤ at
  pub few_words : base ≤ 4 * at

module _ (s out₀ : List ℕ) where
  pub lists_start : 12 ≤ length s → length (joined (file_rows 9 s)) ≤ length out₀ → TableLeft 9 (AnimationLeft 12 0 0 0) s out₀ out₀ 12 0
  unfolding start
  lists_start h r = table_start lists s out₀ (AnimationLeft 12 0 0 0) (record { nodes_are = refl; keys_are = refl; few_nodes = omega arith; few_keys = omega arith; few_words = omega arith }) h r

  module _ (out : List ℕ) (at base nodes keys : ℕ) (v : TableLeft 9 (AnimationLeft at base nodes keys) s out₀ out at base) where
    module _ (r : std.Option FlatChunk) (x : Steps s at r) (g : FlatChunk) (w : r ≡ Some g) (ok : Bool) (eo : ok ≡ is g.tag KEYS) where
      module _ (z : ok ≡ true) where
        is_keys : T (is g.tag KEYS)
        is_keys = subst T (sym z ∙ eo) tt

        not_node : T (not (is g.tag NODE))
        not_node = subst (λ (y : Tag). T (not (is y NODE))) (sym (tag_same g.tag KEYS is_keys)) tt

        pub lists_room : base + 4 ≤ length out
        unfolding joined list_row
        lists_room = table_room lists s out₀ (AnimationLeft at base nodes keys) out at base v r x g w ok eo z

        module _ (n : ℕ) (en : n ≡ length (plain_keys (left g.body s)).items) where
          fits_keys : keys + n ≤ g.next
          fits_keys =
              let f = table_chunk lists s out₀ (AnimationLeft at base nodes keys) out at base v r x g w in
              let k : g.body.end ≤ g.next = f.past not_node in
              omega (arith, group-few true (left g.body s), left-most s g.body, f.from, f.body.head, f.body.room, v.known.few_keys)

          pub lists_sum : length s < 0x100000000 → Fits w64 (keys + n)
          lists_sum small =
              let f = table_chunk lists s out₀ (AnimationLeft at base nodes keys) out at base v r x g w in
              record { fits = omega (arith, fits_keys, f.to) }

          pub lists_keys : (node : ℕ) → node ≡ nodes - 1 → (put : List ℕ) → put ≡ sets out base (list_row node keys (plain_keys (left g.body s)))
              → TableLeft 9 (AnimationLeft g.next (base + 4) nodes (keys + n)) s out₀ put g.next (base + 4)
          unfolding joined list_row
          lists_keys node ei put ep =
              let f = table_chunk lists s out₀ (AnimationLeft at base nodes keys) out at base v r x g w in
              let m = v.counts in
              let e : node ≡ m.nodes - 1 = omega (arith, v.known.nodes_are) in
              table_own lists s out₀ (AnimationLeft at base nodes keys) out at base v r x g w ok eo z (AnimationLeft g.next (base + 4) nodes (keys + n))
              (record {
                nodes_are = counted-nodes g.at (left g.body s) m g.tag ∙ if_no (is g.tag NODE) _ _ not_node ∙ v.known.nodes_are;
                keys_are = counted-keys g.at (left g.body s) m g.tag ∙ if_yes (is g.tag KEYS) _ _ is_keys ∙ omega (arith, v.known.keys_are);
                few_nodes = omega (arith, v.known.few_nodes, f.more);
                few_keys = fits_keys;
                few_words = omega (arith, v.known.few_words, f.more);
              }) put (base + 4) refl (ep ∙ rw (e, ← v.known.keys_are))

      module _ (z : ok ≡ false) (node : Bool) (en : node ≡ is g.tag NODE) where
        other_keys : (counted g.tag g.at (left g.body s) v.counts).keys ≡ keys
        other_keys = counted-keys g.at (left g.body s) v.counts g.tag ∙ if_no (is g.tag KEYS) _ _ (subst (λ (y : Bool). T (not y)) (sym z ∙ eo) tt) ∙ v.known.keys_are

        pub lists_node : node ≡ true → TableLeft 9 (AnimationLeft g.next base (nodes + 1) keys) s out₀ out g.next base
        lists_node u =
            let f = table_chunk lists s out₀ (AnimationLeft at base nodes keys) out at base v r x g w in
            table_other lists s out₀ (AnimationLeft at base nodes keys) out at base v r x g w ok eo (AnimationLeft g.next base (nodes + 1) keys)
            (record {
              nodes_are = counted-nodes g.at (left g.body s) v.counts g.tag ∙ if_yes (is g.tag NODE) _ _ (subst T (sym u ∙ en) tt) ∙ ap (λ (k : ℕ). k + 1) v.known.nodes_are;
              keys_are = other_keys;
              few_nodes = omega (arith, v.known.few_nodes, f.more);
              few_keys = omega (arith, v.known.few_keys, f.more);
              few_words = omega (arith, v.known.few_words, f.more);
            }) z

        pub lists_other : node ≡ false → TableLeft 9 (AnimationLeft g.next base nodes keys) s out₀ out g.next base
        lists_other u =
            let f = table_chunk lists s out₀ (AnimationLeft at base nodes keys) out at base v r x g w in
            table_other lists s out₀ (AnimationLeft at base nodes keys) out at base v r x g w ok eo (AnimationLeft g.next base nodes keys)
            (record {
              nodes_are = counted-nodes g.at (left g.body s) v.counts g.tag ∙ if_no (is g.tag NODE) _ _ (subst (λ (y : Bool). T (not y)) (sym u ∙ en) tt) ∙ v.known.nodes_are;
              keys_are = other_keys;
              few_nodes = omega (arith, v.known.few_nodes, f.more);
              few_keys = omega (arith, v.known.few_keys, f.more);
              few_words = omega (arith, v.known.few_words, f.more);
            }) z

    pub lists_first : length s < 0x100000000 → keys < 0x100000000
    lists_first small = omega (arith, v.known.few_keys, v.inside)

    pub lists_current : length s < 0x100000000 → (node : ℕ) → node ≡ nodes - 1 → node < 0x100000000
    lists_current small node e = omega (arith, v.known.few_nodes, v.inside)

    pub lists_more : length s < 0x100000000 → Fits w64 (nodes + 1)
    lists_more small = record { fits = omega (arith, v.known.few_nodes, v.inside) }

    pub lists_base : length s < 0x100000000 → Fits w64 (base + 4)
    lists_base small = record { fits = omega (arith, v.known.few_words, v.inside) }

-- ---- table 8, at a chunk that is no BONE

module _ (s out₀ out : List ℕ) (at base : ℕ) (v : TableLeft 8 Any s out₀ out at base) (r : std.Option FlatChunk) (x : Steps s at r) (f : FlatChunk) (w : r ≡ Some f) where
  passed : T (not (is f.tag BONE)) → TableLeft 8 Any s out₀ out f.next base
  passed y = plain_other bones s out₀ Any out at base v r x f w (is f.tag BONE) refl (no (is f.tag BONE) y)
    where
      no : (y : Bool) → T (not y) → y ≡ false
      no true h = absurd h
      no false h = refl

  pub bones_keys : (ok : Bool) → ok ≡ is f.tag KEYS → ok ≡ true → TableLeft 8 Any s out₀ out f.next base
  bones_keys ok eo z = passed (subst (λ (y : Tag). T (not (is y BONE))) (sym (tag_same f.tag KEYS (subst T (sym z ∙ eo) tt))) tt)

  pub bones_node : (ok : Bool) → ok ≡ is f.tag NODE → ok ≡ true → TableLeft 8 Any s out₀ out f.next base
  bones_node ok eo z = passed (subst (λ (y : Tag). T (not (is y BONE))) (sym (tag_same f.tag NODE (subst T (sym z ∙ eo) tt))) tt)

pub ruleset lists_laws = (lists_start, lists_room, lists_sum, lists_keys, lists_node, lists_other, lists_first, lists_current, lists_more, lists_base)
