-- Rows that begin with a name, one and then many.
use mathlib.Core.Path.{◌≡◌, refl}
use Prim.Native.Nat.{ℕ, suc, ◌+◌, ◌-◌, ◌*◌, ◌<◌, ◌≤◌}
use native.Mathlib.Nat.{add-zero, suc-mul}
use native.Mathlib.Omega.{arith}
use mathlib.Core.Bool.{Bool}
use mathlib.Core.List.{List, [], ◌∷◌, ◌++◌}
use lib.ListN.{length, take, drop, get_or}
use lib.Seq.{drop-drop}
use lib.Dec.{T, leb, leb→le}
use mir.Facts.{and_yes}
use Rattle.layout.specs.WellFormed.{all}
use Rattle.layout.specs.Write.{write_words, write_text}
use Rattle.layout.proofs.ListLaws.{cell_take}
use Rattle.shared_output.specs.Writing.{Room, Put}
use Rattle.shared_output.proofs.PartLaws.{Both, Begins, both-begins}
use Rattle.shared_output.proofs.AppendLaws.{text-append}
use Rattle.b3d_spec.specs.Rebuild.{cut}
use Rattle.b3d_check_spec.specs.Check.{name_valid}
use Rattle.b3d_write_row_runs.specs.Lent.{each_row}
use Rattle.b3d_write_materials.specs.Named.{NameThere, NamesThere, named_bytes, row_bytes}
use Rattle.b3d_write_row_runs.proofs.CutRowLaws.{part-take}
use Rattle.b3d_write_row_runs.proofs.RowByRowLaws.{RowsFrom, rows_none, rows_same, rows_done, rows_at, rows_room, rows_next}

-- ---- one row

-- its name and its words
module _ (ns t : List ℕ) (i first count place size : ℕ) (e : place ≡ get_or t i 0) (f : size ≡ get_or t (i + 1) 0) where
  pub named-both : Both (named_bytes ns t i first count) (write_text (take size (drop place ns)) []) (write_words (take count (drop first t)) [])
  unfolding named_bytes
  named-both = rw (e, f) (record { is = text-append (take (get_or t (i + 1) 0) (drop (get_or t i 0) ns)) (write_words (take count (drop first t)) []) })

  pub named-begin : Begins (named_bytes ns t i first count) (write_text (take size (drop place ns)) [])
  named-begin = both-begins named-both

pub ruleset named-parts = (named-both, named-begin)

-- ---- many rows

-- the row at word b
row_named : (ns t : List ℕ) (w b many : ℕ) → many + 2 ≤ w → row_bytes ns many (take w (drop b t)) ≡ named_bytes ns t b (b + 2) many
unfolding row_bytes named_bytes
row_named ns t w b many h =
    rw (cell_take w b 0 t (omega arith), cell_take w b 1 t (omega arith), add-zero b, part-take 2 many w (drop b t) h, drop-drop 2 b t)

-- the first i of `count` rows are written; the names of the others are there
pub record NamedFrom (ns t : List ℕ) (w many count : ℕ) (all out₀ out : List ℕ) (at i : ℕ) : Type 0 where
  pub wide : many + 2 ≤ w
  pub names : NamesThere ns (cut w (count - i) (drop (i * w) t))
  pub rows : RowsFrom (row_bytes ns many) w t 0 count all out₀ out at i

module _ (ns t : List ℕ) (w many : ℕ) where
  pub named_none : (count : ℕ) (out : List ℕ) → (many + 2 ≤ w) × (w < 4294967296) × (count * w ≤ length t) → NamesThere ns (cut w count t) → Room (each_row (row_bytes ns many) (cut w count t)) out
      → NamedFrom ns t w many count (each_row (row_bytes ns many) (cut w count t)) out out 0 0
  named_none count out h n r =
      let z : count - 0 ≡ count = omega arith in
      let b : 0 * w ≡ 0 = omega arith in
      record { wide = h.0; names = rw (z, b) n; rows = rows_none (row_bytes ns many) w t 0 count (each_row (row_bytes ns many) (cut w count t)) out r (omega (arith, h.2)) refl }

  module _ (count : ℕ) (all out₀ out : List ℕ) (at i : ℕ) (v : NamedFrom ns t w many count all out₀ out at i) where
    pub named_same : length out ≡ length out₀
    named_same = rows_same (row_bytes ns many) w t 0 count all out₀ out at i v.rows

    pub named_done : count ≤ i → Put all out₀ out at
    named_done h = rows_done (row_bytes ns many) w t 0 count all out₀ out at i v.rows h

    module _ (h : i < count) where
      abbrev b : ℕ
      b = i * w

      place : b ≡ 0 + i * w
      place = omega arith

      pub named_there_all : b + w ≤ length t
      named_there_all = rows_at (row_bytes ns many) w t 0 count all out₀ out at i v.rows h b place

      pub named_two : i * w + 2 ≤ length t
      named_two = omega (arith, v.wide, named_there_all)

      pub named_words : i * w + 2 + many ≤ length t
      named_words = omega (arith, v.wide, named_there_all)

      -- the name of the next row, and those of the others
      split : (get_or (take w (drop b t)) 0 0 + get_or (take w (drop b t)) 1 0 ≤ length ns) × NamesThere ns (cut w (count - (i + 1)) (drop w (drop b t)))
      unfolding NamesThere cut
      split = let n : count - i ≡ suc (count - (i + 1)) = omega arith in rw n at v.names

      pub named_there : NameThere ns t (i * w)
      named_there = record { there = rw (cell_take w b 0 t (omega (arith, v.wide)), cell_take w b 1 t (omega (arith, v.wide)), add-zero b) at split.0 }

      pub named_room : Room (named_bytes ns t (i * w) (i * w + 2) many) (take (length out - at) (drop at out))
      named_room = rows_room (row_bytes ns many) w t 0 count all out₀ out at i v.rows h _ b (row_named ns t w b many v.wide) place

      pub named_next : (zs : List ℕ) (n : ℕ) → Put (named_bytes ns t (i * w) (i * w + 2) many) (take (length out - at) (drop at out)) zs n
          → NamedFrom ns t w many count all out₀ (take at out ++ (zs ++ drop (length out - at) (drop at out))) (at + n) (i + 1)
      named_next zs n k =
          let o : i + 1 ≡ suc i = omega arith in
          let e : b + w ≡ (i + 1) * w = rw o (omega (arith, suc-mul i w)) in
          record {
            wide = v.wide;
            names = rw (drop-drop w b t, e) at split.1;
            rows = rows_next (row_bytes ns many) w t 0 count all out₀ out at i v.rows h _ b (row_named ns t w b many v.wide) place zs n k;
          }

pub ruleset named_laws = (named_none, named_same, named_done, named_there_all, named_two, named_words, named_there, named_room, named_next)

-- ---- what the check of lent tables says of names

names-there : (ns : List ℕ) (f : List ℕ → Bool) → ((x : List ℕ) → T (f x) → T (name_valid ns x)) → (rs : List (List ℕ)) → T (all f rs) → NamesThere ns rs
unfolding NamesThere name_valid
names-there ns f h [] t = tt
names-there ns f h (x ∷ rs) t =
    let u = and_yes (f x) (all f rs) t in
    let l = (and_yes (leb (get_or x 0 0 + get_or x 1 0) (length ns)) _ (h x u.0)).0 in
    (leb→le (get_or x 0 0 + get_or x 1 0) (length ns) l, names-there ns f h rs u.1)
