-- Comparisons of worked files, proved by computing: what is answered, and what an output of so many bytes 9 holds afterwards.
use mathlib.Core.Path.{◌≡◌, refl}
use Prim.Native.Nat.{ℕ}
use mathlib.Core.List.{List, [], ◌∷◌, ◌++◌, map}
use lib.ListN.{replicate}
use Rattle.layout.specs.Rules.{NONE}
use Rattle.layout.specs.Write.{write_words}
use Rattle.shared_seven_bit_groups.specs.Groups.{front_in, front, groups}
use Rattle.b3d_spec.specs.declared.Tag.TheVariants.{MESH, VRTS}
use Rattle.b3d_spec.specs.Rebuild.{same, name_from}
use Rattle.b3d_spec.specs.Tags.{code}
use Rattle.b3d_spec.proofs.Computing.{computing}
use Rattle.b3d_spec.proofs.Cases.{zeros, file, a_node, P, H, Hall, H-XTRA, T, T-tris}
use Rattle.b3d_compare_spec.specs.declared.Compared.{Compared}
use Rattle.b3d_compare_spec.specs.Words.{word_kinds, kind_at}
use Rattle.b3d_compare_spec.specs.Changes.{same_cell, cell_of, cell_at, word_changes, row_changes, table_changes, twelve, rows_of, first_or, changes_in, changes}
use Rattle.b3d_compare_spec.specs.List.{lead_bytes, text_bytes, change_bytes, list_bytes}
use Rattle.b3d_compare_spec.specs.Compare.{of_file, room_for, compare, compared, output_after, compare_answer, compare_output}

abbrev nines : ℕ → List ℕ
nines n = replicate n 9

abbrev wrote : ℕ → Compared
wrote n = record { number = 0; which = 0; place = 0; size = n }

abbrev refusal : ℕ → ℕ → ℕ → Compared
refusal n p i = record { number = n; which = i; place = p; size = 0 }

-- H with another name of as many bytes, and with a longer one
abbrev Hill : List ℕ
Hill = 72 ∷ 105 ∷ 108 ∷ 108 ∷ []

abbrev Halls : List ℕ
Halls = 72 ∷ 97 ∷ 108 ∷ 108 ∷ 115 ∷ []

abbrev H-hill : List ℕ
H-hill = file 57 1 (a_node 45 Hill [])

abbrev H-halls : List ℕ
H-halls = file 58 1 (a_node 46 Halls [])

-- T whose first vertex lies at x = -0.0
abbrev T-minus : List ℕ
T-minus = file 145 1 (a_node 133 [] (write_words (code MESH ∷ 84 ∷ NONE ∷ code VRTS ∷ 48 ∷ 0 ∷ 0 ∷ 0 ∷ 2147483648 ∷ []) (zeros 32 ++ T-tris 2)))

pub record Case : Type 0 where
  pub first : List ℕ
  pub second : List ℕ
  pub room : ℕ
  pub answer : Compared
  pub leaves : List ℕ

abbrev pub cases : List Case
cases =
    record { first = H; second = H; room = 1; answer = wrote 0; leaves = nines 1 }
    -- a chunk that is passed over is no difference
    ∷ record { first = H; second = H-XTRA; room = 0; answer = wrote 0; leaves = [] }
    -- names: table 3, row 0, word 0, two lengths, two texts; the length, word 1, is never listed
    ∷ record { first = H; second = H-hill; room = 14; answer = wrote 13; leaves = 3 ∷ 0 ∷ 0 ∷ 4 ∷ 4 ∷ Hall ++ Hill ++ nines 1 }
    ∷ record { first = H-halls; second = H; room = 14; answer = wrote 14; leaves = 3 ∷ 0 ∷ 0 ∷ 5 ∷ 4 ∷ Halls ++ Hall }
    -- 0.0 and -0.0: a float by its bits, 2147483648 in five groups
    ∷ record { first = T; second = T-minus; room = 9; answer = wrote 9; leaves = 5 ∷ 0 ∷ 0 ∷ 0 ∷ 136 ∷ 128 ∷ 128 ∷ 128 ∷ 0 ∷ [] }
    -- a count: word 4 of table 0, and no more; a version: word 0
    ∷ record { first = P 1; second = H; room = 5; answer = wrote 5; leaves = 0 ∷ 0 ∷ 4 ∷ 0 ∷ 1 ∷ [] }
    ∷ record { first = P 99; second = H; room = 10; answer = wrote 10; leaves = 0 ∷ 0 ∷ 0 ∷ 99 ∷ 1 ∷ 0 ∷ 0 ∷ 4 ∷ 0 ∷ 1 ∷ [] }
    -- the first file's refusal, then the second's, then 11
    ∷ record { first = P 100; second = []; room = 2; answer = refusal 6 8 1; leaves = nines 2 }
    ∷ record { first = H; second = P 100; room = 2; answer = refusal 6 8 2; leaves = nines 2 }
    ∷ record { first = H; second = H-hill; room = 12; answer = refusal 11 13 0; leaves = nines 12 }
    ∷ []

pub cases_hold : map {B = Compared × List ℕ} (λ c. (compare_answer c.first c.second (nines c.room), compare_output c.first c.second (nines c.room))) cases
    ≡ map {B = Compared × List ℕ} (λ c. (c.answer, c.leaves)) cases
unfolding computing front_in front groups same name_from word_kinds kind_at same_cell cell_of cell_at word_changes row_changes table_changes twelve rows_of first_or changes_in changes lead_bytes text_bytes change_bytes list_bytes of_file room_for compare compared output_after compare_answer compare_output
cases_hold = refl
