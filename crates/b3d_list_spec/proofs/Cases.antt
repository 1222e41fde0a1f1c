-- The listings of worked files of 01, proved by computing: one list, one statement.
use mathlib.Core.Path.{◌≡◌, refl}
use Prim.Native.Nat.{ℕ}
use mathlib.Core.List.{List, [], ◌∷◌, ◌++◌, map}
use Rattle.b3d_spec.proofs.Cases.{zeros, file, P, a_node, H, T}
use Rattle.b3d_spec.proofs.Computing.{computing}
use Rattle.b3d_list_text.specs.Text.{shown, decimal_in, decimal, after, number_line, text_line}
use Rattle.b3d_list_spec.specs.Listing.{name_or_word, node_lines, listed, listing}

pub record Case : Type 0 where
  pub bytes : List ℕ
  pub text : List ℕ

abbrev gives : List ℕ → List ℕ → Case
gives bytes text = record { bytes = bytes; text = text }

-- the first two lines of an accepted file of version 1: `0 0` and `1 0`
abbrev accepted : List ℕ
accepted = 48 ∷ 32 ∷ 48 ∷ 10 ∷ 49 ∷ 32 ∷ 48 ∷ 10 ∷ []

-- the line of the counts where there is one node and nothing else: `0 0 1 0 0 0 0 0 0 0`
abbrev one_node : List ℕ
one_node = 48 ∷ 32 ∷ 48 ∷ 32 ∷ 49 ∷ 32 ∷ 48 ∷ 32 ∷ 48 ∷ 32 ∷ 48 ∷ 32 ∷ 48 ∷ 32 ∷ 48 ∷ 32 ∷ 48 ∷ 32 ∷ 48 ∷ 10 ∷ []

unfoldable pub cases : List Case
cases =
    -- H: 01's four lines, the last `Hall`
    gives H (accepted ++ one_node ++ (72 ∷ 97 ∷ 108 ∷ 108 ∷ 10 ∷ []))
    -- the same node with the name 1, 32, 126, 127: `? ~?`
    ∷ gives (file 57 1 (a_node 45 (1 ∷ 32 ∷ 126 ∷ 127 ∷ []) [])) (accepted ++ one_node ++ (63 ∷ 32 ∷ 126 ∷ 63 ∷ 10 ∷ []))
    -- T: `0 0 1 1 3 1 1 0 0 0` and `unnamed`
    ∷ gives T
    (accepted ++ (48 ∷ 32 ∷ 48 ∷ 32 ∷ 49 ∷ 32 ∷ 49 ∷ 32 ∷ 51 ∷ 32 ∷ 49 ∷ 32 ∷ 49 ∷ 32 ∷ 48 ∷ 32 ∷ 48 ∷ 32 ∷ 48 ∷ 10 ∷ [])
    ++ (117 ∷ 110 ∷ 110 ∷ 97 ∷ 109 ∷ 101 ∷ 100 ∷ 10 ∷ []))
    -- 11 bytes: `1 0`
    ∷ gives (zeros 11) (49 ∷ 32 ∷ 48 ∷ 10 ∷ [])
    -- version 100: `6 8`
    ∷ gives (P 100) (54 ∷ 32 ∷ 56 ∷ 10 ∷ [])
    -- bytes after the node, of a file without a name: `3 61`
    ∷ gives (file 58 1 (a_node 41 [] (zeros 5))) (51 ∷ 32 ∷ 54 ∷ 49 ∷ 10 ∷ [])
    ∷ []

pub cases_hold : map (λ (c : Case). listing c.bytes) cases ≡ map (λ (c : Case). c.text) cases
unfolding computing cases shown decimal_in decimal after number_line text_line name_or_word node_lines listed listing
cases_hold = refl
