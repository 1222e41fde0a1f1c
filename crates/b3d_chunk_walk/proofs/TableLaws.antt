-- A table that a loop over the flat run fills: what the loop has come to, and a law for each way on, whatever the table.
use Rattle.std.specs.Prelude.{Some, None}
use Rattle.std.specs.Prelude as std
use Rattle.b3d_chunk_walk.specs.declared.FlatChunk.{FlatChunk}
use mathlib.Core.Path.{◌≡◌, refl, ap, sym, subst, ◌∙◌}
use Prim.Native.Nat.{ℕ, ◌+◌, ◌-◌, ◌<◌, ◌≤◌}
use native.Mathlib.Omega.{arith}
use mathlib.Core.Bool.{Bool, true, false, not}
use mathlib.Core.List.{List, [], ◌++◌}
use lib.ListN.{length, length-append, drop_of_length-le}
use lib.Dec.{T}
use lib.Seq.{sets}
use Rattle.wire.specs.Cursors.{Inside, left}
use Rattle.wire.specs.declared.Cursor.{Cursor}
use Rattle.layout.proofs.ChunkLaws.{split-none}
use Rattle.layout.proofs.ListLaws.{joined-append}
use Rattle.b3d_spec.specs.declared.Counts.{Counts}
use Rattle.b3d_spec.specs.declared.Tag.{Tag}
use Rattle.layout.specs.Rows.{joined}
use Rattle.b3d_spec.specs.Tables.{start}
use Rattle.b3d_spec.specs.Tags.{is, split, tag_of}
use Rattle.shared_table_words.proofs.StoreLaws.{Storing, store_run, store_done}
use Rattle.b3d_spec_plain_rows.specs.Flat.{rest, flat_at}
use Rattle.b3d_spec_plain_rows.specs.Rows.{counted, chunk_rows, flat_rows, file_rows}
use Rattle.b3d_spec_plain_rows.proofs.FlatRunLaws.{run-done}
use Rattle.b3d_chunk_walk.proofs.CountLaws.{tag_same}
use Rattle.b3d_chunk_walk.specs.Walks.{ChunkIs, Ends, FlatIs, Steps}

-- table k has the rows f of the chunks of tag o, and no other
pub record Owns (k : ℕ) (o : Tag) (f : ℕ → List ℕ → Counts → List (List ℕ)) : Type 0 where
  pub file : (s : List ℕ) → file_rows k s ≡ flat_rows k start (flat_at s 12)
  pub own : (t : Tag) (p : ℕ) (b : List ℕ) (n : Counts) → T (is t o) → chunk_rows k t p b n ≡ f p b n
  pub other : (t : Tag) (p : ℕ) (b : List ℕ) (n : Counts) → T (not (is t o)) → chunk_rows k t p b n ≡ []

pub owns-rows : (k : ℕ) (o : Tag) (f : ℕ → List ℕ → Counts → List (List ℕ)) → ((s : List ℕ) → file_rows k s ≡ flat_rows k start (flat_at s 12)) → ((p : ℕ) (b : List ℕ) (n : Counts) → chunk_rows k o p b n ≡ f p b n)
    → ((t : Tag) (p : ℕ) (b : List ℕ) (n : Counts) → T (not (is t o)) → chunk_rows k t p b n ≡ []) → Owns k o f
owns-rows k o f file here other = record { file = file; own = λ t p b n h. subst (λ (u : Tag). chunk_rows k u p b n ≡ f p b n) (sym (tag_same t o h)) (here p b n); other = other }

-- nothing is asked of the counts
pub record Any (n : Counts) : Type 0 where
  pub any : Unit {0}

pub any-counts : (n : Counts) → Any n
any-counts n = record { any = tt }

-- the words of table k from a place of the file on, after so many rows
abbrev pub table_from : ℕ → List ℕ → Counts → ℕ → List ℕ
table_from k s n at = joined (flat_rows k n (flat_at s at))

-- of table k what is left stands from `at` on, and has room from word `base` on; P is known of the counts there
pub record TableLeft (k : ℕ) (P : Counts → Type 0) (s out₀ out : List ℕ) (at base : ℕ) : Type 0 where
  pub counts : Counts
  pub known : P counts
  pub inside : at ≤ length s
  pub room : base + length (table_from k s counts at) ≤ length out₀
  pub stores : Storing out₀ 0 (joined (file_rows k s)) out base (table_from k s counts at)

module _ {k : ℕ} {o : Tag} {f : ℕ → List ℕ → Counts → List (List ℕ)} (owns : Owns k o f) where
  module _ (s out₀ : List ℕ) where
    pub table_start : (P : Counts → Type 0) → P start → 12 ≤ length s → length (joined (file_rows k s)) ≤ length out₀ → TableLeft k P s out₀ out₀ 12 0
    table_start P y h r = record {
      counts = start;
      known = y;
      inside = h;
      room = omega (arith, ap (λ l. length (joined l)) (owns.file s));
      stores = record { long = refl; same = ap (λ l. sets out₀ 0 (joined l)) (sym (owns.file s)) };
    }

    -- a file without a version
    pub table_small : length s < 12 → out₀ ≡ sets out₀ 0 (joined (file_rows k s))
    unfolding rest flat_rows joined
    table_small h =
        let d : split 12 _ ≡ _ = ap (split 12) (drop_of_length-le s {i = 12} (omega arith)) ∙ split-none tag_of 12 in
        let z : joined (file_rows k s) ≡ [] = ap joined (owns.file s) ∙ ap (λ c. joined (flat_rows k start c)) (run-done s 12 d) in
        sym (ap (sets out₀ 0) z)

    module _ (P : Counts → Type 0) (out : List ℕ) (at base : ℕ) (v : TableLeft k P s out₀ out at base) where
      pub table_inside : at ≤ length s
      table_inside = v.inside

      pub table_long : length out ≡ length out₀
      table_long = v.stores.long

      module _ (r : std.Option FlatChunk) (x : Steps s at r) where
        pub table_done : r ≡ None → out ≡ sets out₀ 0 (joined (file_rows k s))
        unfolding joined
        table_done w = let e : Ends (flat_at s at) = subst (FlatIs s at) w x.is in store_done v.stores (ap joined (e.rows k v.counts))

        module _ (g : FlatChunk) (w : r ≡ Some g) where
          it : ChunkIs s at g.tag g.at g.body g.next
          it = subst (FlatIs s at) w x.is

          pub table_chunk : ChunkIs s at g.tag g.at g.body g.next
          table_chunk = it

          pub table_less : length s - g.next < length s - at
          table_less = omega (arith, it.more, it.to)

          pub table_body : Inside g.body (length s)
          table_body = record { before = it.body.room; within = it.body.within }

          split_rows : table_from k s v.counts at ≡ joined (chunk_rows k g.tag g.at (left g.body s) v.counts) ++ table_from k s (counted g.tag g.at (left g.body s) v.counts) g.next
          unfolding flat_rows
          split_rows = ap (λ c. joined (flat_rows k v.counts c)) it.run ∙ joined-append _ _

          module _ (ok : Bool) (eo : ok ≡ is g.tag o) (Q : Counts → Type 0) (y : Q (counted g.tag g.at (left g.body s) v.counts)) where
            pub table_other : ok ≡ false → TableLeft k Q s out₀ out g.next base
            unfolding joined
            table_other z =
                let e : table_from k s v.counts at ≡ table_from k s (counted g.tag g.at (left g.body s) v.counts) g.next =
                split_rows ∙ ap (λ l. joined l ++ table_from k s (counted g.tag g.at (left g.body s) v.counts) g.next) (owns.other g.tag g.at (left g.body s) v.counts (subst (λ (y : Bool). T (not y)) (sym z ∙ eo) tt)) in
                record { counts = counted g.tag g.at (left g.body s) v.counts; known = y; inside = it.to; room = rw e at v.room; stores = rw e at v.stores }

          module _ (ok : Bool) (eo : ok ≡ is g.tag o) (z : ok ≡ true) where
            owned : table_from k s v.counts at ≡ joined (f g.at (left g.body s) v.counts) ++ table_from k s (counted g.tag g.at (left g.body s) v.counts) g.next
            owned = split_rows ∙ ap (λ l. joined l ++ table_from k s (counted g.tag g.at (left g.body s) v.counts) g.next) (owns.own g.tag g.at (left g.body s) v.counts (subst T (sym z ∙ eo) tt))

            pub table_room : base + length (joined (f g.at (left g.body s) v.counts)) ≤ length out
            table_room = omega (arith, v.room, v.stores.long, ap length owned, length-append (joined (f g.at (left g.body s) v.counts)) (table_from k s (counted g.tag g.at (left g.body s) v.counts) g.next))

            pub table_own : (Q : Counts → Type 0) → Q (counted g.tag g.at (left g.body s) v.counts) → (put : List ℕ) (to : ℕ) → to ≡ base + length (joined (f g.at (left g.body s) v.counts))
                → put ≡ sets out base (joined (f g.at (left g.body s) v.counts)) → TableLeft k Q s out₀ put g.next to
            table_own Q y put to et ep =
                let m = counted g.tag g.at (left g.body s) v.counts in
                record {
                  counts = m;
                  known = y;
                  inside = it.to;
                  room = omega (arith, v.room, ap length owned, length-append (joined (f g.at (left g.body s) v.counts)) (table_from k s m g.next));
                  stores = rw (et, ep) (store_run v.stores (joined (f g.at (left g.body s) v.counts)) owned);
                }

            -- where nothing is asked of the counts
            pub plain_own : (put : List ℕ) (to : ℕ) → to ≡ base + length (joined (f g.at (left g.body s) v.counts)) → put ≡ sets out base (joined (f g.at (left g.body s) v.counts)) → TableLeft k Any s out₀ put g.next to
            plain_own put to et ep = table_own Any (any-counts _) put to et ep

          pub plain_other : (ok : Bool) → ok ≡ is g.tag o → ok ≡ false → TableLeft k Any s out₀ out g.next base
          plain_other ok eo z = table_other ok eo Any (any-counts _) z
