-- The rows of good bones: what each turn of `fill` stores.
use Rattle.std.specs.Prelude.{Some, None}
use Rattle.std.specs.Prelude as std
use Rattle.cal3d_skeleton_bones.specs.declared.Laid.{Laid}
use Prim.Native.Nat.{ℕ, ◌+◌, ◌-◌, ◌*◌, ◌<◌, ◌≤◌}
use native.Mathlib.Omega.{arith}
use mathlib.Core.Path.{◌≡◌, refl, ap, sym, ◌∙◌}
use mathlib.Core.List.{List, [], ◌∷◌, ◌++◌, map}
use lib.ListN.{length, length-append}
use lib.Seq.{sets}
use Rattle.wire.specs.Bytes.{over}
use Rattle.wire.specs.Cursors.{Inside, left}
use Rattle.wire.specs.declared.Cursor.{Cursor}
use Rattle.wire.proofs.LeftLaws.{left-length}
use Rattle.layout.specs.Parts.{Step, words_of}
use Rattle.layout.specs.Rows.{name_cells, joined}
use Rattle.layout.proofs.StepLaws.{length-words-of}
use Rattle.layout.proofs.ListLaws.{joined-append}
use Rattle.shared_table_words.proofs.StoreLaws.{Storing, store_none, store_run, store_done, sets-append}
use Rattle.shared_table_words.proofs.JoinedLaws.{over-all}
use Rattle.cal3d_spec.specs.Skeletons.{Bone, list_of, read_bone}
use Rattle.cal3d_spec.specs.Tables.{bone_rows, child_rows}
use Rattle.cal3d_skeleton_bones.specs.Bones.{LaidAt, NoBone, Lays, children_in}
use Rattle.cal3d_skeleton_bones.proofs.WalkLaws.{none_in, one_in}
use Rattle.cal3d_skeleton_bones.proofs.BoneWalkLaws.{Walked, walked_start, walked_none, walked-gone, walked_next}
use Rattle.cal3d_skeleton_tree_file.specs.Links.{GoodBones, bones_at}
use Rattle.cal3d_skeleton_rows.specs.Cells.{bone_cells}

-- ---- one row

-- the label, the numbers, and what came before
pub bone-put : (out : List ℕ) (base a b : ℕ) (ws : List ℕ) (n : ℕ) (one two new : List ℕ) → one ≡ sets out base (a ∷ b ∷ []) → two ≡ sets one (base + 2) ws → new ≡ sets two (base + 22) (n ∷ [])
    → length ws ≡ 20 → new ≡ sets out base (bone_cells a b ws n)
bone-put out base a b ws n one two new e₁ e₂ e₃ l =
    let k : base + 2 + length ws ≡ base + 22 = omega arith in
    let f = sets-append (a ∷ b ∷ []) (ws ++ (n ∷ [])) out base in
    let g = sets-append ws (n ∷ []) (sets out base (a ∷ b ∷ [])) (base + 2) in
    e₃ ∙ ap (λ (z : List ℕ). sets z (base + 22) (n ∷ [])) (e₂ ∙ ap (λ (z : List ℕ). sets z (base + 2) ws) e₁) ∙ sym (f ∙ g ∙ ap (λ (z : ℕ). sets (sets (sets out base (a ∷ b ∷ [])) (base + 2) ws) z (n ∷ [])) k)

pub words_long : (n : ℕ) (c : Cursor) (s : List ℕ) → Inside c (length s) → c.at + 4 * n ≤ c.end → length (words_of n (left c s)) ≡ n
words_long n c s i h = length-words-of n (left c s) (omega (arith, left-length s c i))

-- ---- all rows

bones-first : (n : ℕ) (b : Bone) (l : List Bone) → joined (bone_rows n (b ∷ l)) ≡ (name_cells b.name ++ (b.numbers ++ (n ∷ []))) ++ joined (bone_rows (n + length b.children) l)
unfolding joined bone_rows
bones-first n b l = refl

bones-none : (n : ℕ) → joined (bone_rows n []) ≡ []
unfolding joined bone_rows
bones-none n = refl

kids-first : (b : Bone) (l : List Bone) → joined (child_rows (b ∷ l)) ≡ list_of b ++ joined (child_rows l)
unfolding child_rows list_of joined
kids-first b l = joined-append b.children (joined (map (λ (x : Bone). x.children) l))

kids-none : joined (child_rows []) ≡ []
unfolding child_rows joined
kids-none = refl

-- the rows of the bones before i stand, with so many children
pub record Filling (s : List ℕ) (count : ℕ) (all : List Bone) (bones₀ children₀ : List ℕ) (c : Cursor) (i before : ℕ) (bones children : List ℕ) : Type 0 where
  pub done : List Bone
  pub rest : Step (List Bone)
  pub walked : Walked s count all c i done rest
  pub many : before + children_in rest.value ≡ children_in all
  pub first : Storing bones₀ 0 (joined (bone_rows 0 all)) bones (23 * i) (joined (bone_rows before rest.value))
  pub second : Storing children₀ 0 (joined (child_rows all)) children before (joined (child_rows rest.value))
  pub long_first : 23 * i + length (joined (bone_rows before rest.value)) ≡ length (joined (bone_rows 0 all))
  pub long_second : before + length (joined (child_rows rest.value)) ≡ length (joined (child_rows all))

module _ (s : List ℕ) (count : ℕ) (bones₀ children₀ : List ℕ) where
  pub fill_start : (from : Cursor) → GoodBones s from count → Filling s count (bones_at s from count) bones₀ children₀ from 0 0 bones₀ children₀
  fill_start from g =
      let w = walked_start s count from g.inside g.whole in
      let z : 0 + 0 ≡ 23 * 0 = omega arith in
      let y : 0 + 0 ≡ 0 = omega arith in
      record {
        done = [];
        rest = g.whole.read;
        walked = w;
        many = rw (← w.joins) (omega arith);
        first = rw (w.joins, ← z) (store_none {out₀ = bones₀} {base = 0} {all = joined (bone_rows 0 (bones_at s from count))});
        second = rw w.joins (rw y at (store_none {out₀ = children₀} {base = 0} {all = joined (child_rows (bones_at s from count))}));
        long_first = rw (← w.joins) (omega arith);
        long_second = rw (← w.joins) (omega arith);
      }

  module _ (all : List Bone) (c : Cursor) (i before : ℕ) (bones children : List ℕ) (f : Filling s count all bones₀ children₀ c i before bones children) where
    pub fill_inside : Inside c (length s)
    fill_inside = f.walked.inside

    module _ (h : count ≤ i) where
      nothing : f.rest.value ≡ []
      nothing = walked_none s count all c i f.done f.rest f.walked h

      pub fill_first : 23 * count ≤ length bones₀ → bones ≡ over (joined (bone_rows 0 all)) bones₀
      fill_first room =
          let u = f.walked.upto in
          let e : joined (bone_rows before f.rest.value) ≡ [] = rw nothing (bones-none before) in
          let l = f.long_first in
          let z = ap length e in
          store_done f.first e ∙ over-all bones₀ (joined (bone_rows 0 all)) (omega arith)

      pub fill_second : children_in all ≤ length children₀ → children ≡ over (joined (child_rows all)) children₀
      fill_second room =
          let e : joined (child_rows f.rest.value) ≡ [] = rw nothing kids-none in
          let m : before + children_in [] ≡ children_in all = rw nothing at f.many in
          let l = f.long_second in
          let z = ap length e in
          store_done f.second e ∙ over-all children₀ (joined (child_rows all)) (omega (arith, none_in))

    module _ (h : i < count) (r : std.Option Laid) (u : Lays s count (read_bone count c.at (left c s)) c r) where
      gone : {P : Type 0} → r ≡ None → P
      gone w = let n : NoBone (read_bone count c.at (left c s)) = rw w at u in walked-gone s count all c i f.done f.rest f.walked h n

      pub gone_first : r ≡ None → bones ≡ over (joined (bone_rows 0 all)) bones₀
      gone_first w = gone w

      pub gone_second : r ≡ None → children ≡ over (joined (child_rows all)) children₀
      gone_second w = gone w

      module _ (g : Laid) (w : r ≡ Some g) where
        b : LaidAt s count (read_bone count c.at (left c s)) c g.numbers g.children g.next
        b = rw w at u

        pub fill_numbers : Inside (record { at = g.numbers; end = c.end }) (length s)
        fill_numbers = let k = f.walked.inside in let a = b in record { before = omega arith; within = k.within }

        pub fill_kids : Inside (record { at = g.numbers + 80; end = c.end }) (length s)
        fill_kids = let k = f.walked.inside in let a = b in record { before = omega arith; within = k.within }

        pub fill_places : (c.at + 4 ≤ g.numbers) × (g.numbers + 80 + 4 * g.children ≤ c.end)
        fill_places = let a = b in (a.behind, omega arith)

        pub fill_room : 23 * i + 23 ≤ 23 * count
        fill_room = omega arith

        pub fill_before : before + g.children ≤ children_in all
        fill_before =
            walked_next s count all c i f.done f.rest f.walked h g.numbers g.children g.next b (λ l q k.
            let m = f.many in
            let o = ap children_in q ∙ one_in b.bone l.value in
            let a = b.many in
            omega arith)

        pub fill_next : (new more : List ℕ)
            → new ≡ sets bones (23 * i) (bone_cells (c.at + 4) (g.numbers - (c.at + 4)) (words_of 20 (left (record { at = g.numbers; end = c.end }) s)) before)
            → more ≡ sets children before (words_of g.children (left (record { at = g.numbers + 80; end = c.end }) s))
            → Filling s count all bones₀ children₀ g.next (i + 1) (before + g.children) new more
        fill_next new more e₁ e₂ =
            walked_next s count all c i f.done f.rest f.walked h g.numbers g.children g.next b (λ l q k.
            let cells = bone_cells (c.at + 4) (g.numbers - (c.at + 4)) (words_of 20 (left (record { at = g.numbers; end = c.end }) s)) before in
            let kids = words_of g.children (left (record { at = g.numbers + 80; end = c.end }) s) in
            let a = fill_places in
            let row : name_cells b.bone.name ++ (b.bone.numbers ++ (before ∷ [])) ≡ cells =
            ap (λ (z : List ℕ). z ++ (b.bone.numbers ++ (before ∷ []))) b.label ∙ ap (λ (z : List ℕ). ((c.at + 4) ∷ (g.numbers - (c.at + 4)) ∷ []) ++ (z ++ (before ∷ []))) b.words in
            let wide : length (words_of 20 (left (record { at = g.numbers; end = c.end }) s)) ≡ 20 = words_long 20 (record { at = g.numbers; end = c.end }) s fill_numbers (omega arith) in
            let wide₂ : length kids ≡ g.children = words_long g.children (record { at = g.numbers + 80; end = c.end }) s fill_kids a.1 in
            let long : length cells ≡ 23 = cells_long (c.at + 4) (g.numbers - (c.at + 4)) (words_of 20 (left (record { at = g.numbers; end = c.end }) s)) before wide in
            let p₁ : joined (bone_rows before f.rest.value) ≡ cells ++ joined (bone_rows (before + g.children) l.value) =
            ap (λ (z : List Bone). joined (bone_rows before z)) q ∙ bones-first before b.bone l.value
            ∙ ap (λ (z : List ℕ). z ++ joined (bone_rows (before + length b.bone.children) l.value)) row
            ∙ ap (λ (z : ℕ). cells ++ joined (bone_rows (before + z) l.value)) b.many in
            let p₂ : joined (child_rows f.rest.value) ≡ kids ++ joined (child_rows l.value) =
            ap (λ (z : List Bone). joined (child_rows z)) q ∙ kids-first b.bone l.value ∙ ap (λ (z : List ℕ). z ++ joined (child_rows l.value)) b.kids in
            let s₁ = store_run f.first cells p₁ in
            let s₂ = store_run f.second kids p₂ in
            let n₁ : 23 * i + length cells ≡ 23 * (i + 1) = omega arith in
            let n₂ : before + length kids ≡ before + g.children = omega arith in
            let l₁ = ap length p₁ ∙ length-append cells (joined (bone_rows (before + g.children) l.value)) in
            let l₂ = ap length p₂ ∙ length-append kids (joined (child_rows l.value)) in
            let m₁ = f.long_first in
            let m₂ = f.long_second in
            let m = f.many in
            let o = ap children_in q ∙ one_in b.bone l.value in
            let bm = b.many in
            record {
              done = f.done ++ b.bone ∷ [];
              rest = l;
              walked = k;
              many = omega arith;
              first = rw (e₁, ← n₁) s₁;
              second = rw (e₂, ← n₂) s₂;
              long_first = omega arith;
              long_second = omega arith;
            })
          where
            cells_long : (a b : ℕ) (ws : List ℕ) (n : ℕ) → length ws ≡ 20 → length (bone_cells a b ws n) ≡ 23
            cells_long a b ws n e = let k = length-append ws (n ∷ []) in omega arith

pub ruleset fills = (fill_start, fill_inside, fill_first, fill_second, gone_first, gone_second, fill_numbers, fill_kids, fill_room, fill_before, fill_next)
