-- The starred worked files of 01: one list, one statement, proved by computing. Each case is a file, its size, and what reader and
-- clearer make of it.
use mathlib.Core.Path.{◌≡◌, refl}
use Prim.Native.Nat.{ℕ}
use mathlib.Core.List.{List, [], ◌∷◌, ◌++◌, map}
use lib.ListN.{length, replicate, drop}
use Rattle.layout.specs.Rules.{NONE}
use Rattle.layout.specs.Write.{write_words}
use Rattle.b3d_spec.specs.declared.Mode.TheVariants.{Strict}
use Rattle.b3d_spec.specs.declared.Tag.TheVariants.{BB3D, NODE, MESH, VRTS, TRIS}
use Rattle.b3d_spec.specs.Tags.{code}
use Rattle.b3d_spec.specs.Tables.{tables}
use Rattle.b3d_spec.specs.Answers.{read_answer, read_table, clear_answer, clear_output}
use Rattle.b3d_spec.specs.declared.Answer.{Answer}
use Rattle.b3d_spec.specs.declared.Written.{Written}
use Rattle.b3d_spec.proofs.Computing.{computing}

-- ---- the files

abbrev pub zeros : ℕ → List ℕ
zeros n = replicate n 0

-- a file of so many bytes after its header, a version, and then these bytes
abbrev pub file : ℕ → ℕ → List ℕ → List ℕ
file size version r = write_words (code BB3D ∷ size ∷ version ∷ []) r

abbrev pub P : ℕ → List ℕ
P version = file 4 version []

-- a node of so many bytes: its name, then ten zeros, then these bytes
abbrev pub a_node : ℕ → List ℕ → List ℕ → List ℕ
a_node size name r = write_words (code NODE ∷ size ∷ []) (name ++ zeros 1 ++ zeros 40 ++ r)

abbrev pub Hall : List ℕ
Hall = 72 ∷ 97 ∷ 108 ∷ 108 ∷ []

abbrev pub H : List ℕ
H = file 57 1 (a_node 45 Hall [])

abbrev pub XTRA : ℕ
XTRA = 0x41525458

abbrev pub H-XTRA : List ℕ
H-XTRA = file 68 1 (a_node 45 Hall (write_words (XTRA ∷ 3 ∷ []) (1 ∷ 2 ∷ 3 ∷ [])))

-- the same with XTRA as the last chunk of the node
abbrev pub H-XTRA-inside : List ℕ
H-XTRA-inside = file 68 1 (a_node 56 Hall (write_words (XTRA ∷ 3 ∷ []) (1 ∷ 2 ∷ 3 ∷ [])))

abbrev pub H-cleared : List ℕ
H-cleared = file 53 1 (a_node 41 [] [])

-- T up to its VRTS: the length of the file and of its NODE, its MESH and its VRTS, the mesh's brush; then these bytes
abbrev pub T-with : ℕ → ℕ → ℕ → ℕ → ℕ → List ℕ → List ℕ
T-with size n m vrts brush r =
    file size 1 (a_node n [] (write_words (code MESH ∷ m ∷ brush ∷ code VRTS ∷ vrts ∷ 0 ∷ 0 ∷ 0 ∷ []) (zeros 36 ++ r)))

-- T's TRIS, with this last id
abbrev pub T-tris : ℕ → List ℕ
T-tris last = write_words (code TRIS ∷ 16 ∷ NONE ∷ 0 ∷ 1 ∷ last ∷ []) []

abbrev pub T : List ℕ
T = T-with 145 133 84 48 NONE (T-tris 2)

-- ---- what is told of them

-- the reader is lent tables of 126 words each, each 7; the clearer an output of so many bytes, each 170
pub record Told : Type 0 where
  pub size : ℕ
  pub answer : Answer
  pub tables : List (List ℕ)
  pub cleared : Written
  pub output : List ℕ

pub record Case : Type 0 where
  pub bytes : List ℕ
  pub room : ℕ
  pub told : Told

abbrev lent : List ℕ
lent = replicate 126 7

abbrev output : ℕ → List ℕ
output room = replicate room 170

-- what the definitions say of a file
abbrev pub said : Case → Told
said c = record {
  size = length c.bytes;
  answer = read_answer Strict (λ k. 126) c.bytes;
  tables = map (λ k. read_table Strict k (λ j. 126) c.bytes lent) tables;
  cleared = clear_answer c.bytes (output c.room);
  output = clear_output c.bytes (output c.room);
}

-- ---- what they must say

-- these words, and then what stood in the table
abbrev holding : List ℕ → List ℕ
holding ws = ws ++ drop (length ws) lent

-- a file of so many bytes that is refused: nothing is changed
abbrev refused : List ℕ → ℕ → ℕ → ℕ → Case
refused bytes size number place = record {
  bytes = bytes;
  room = 200;
  told = record {
    size = size;
    answer = record { number = number; place = place; version = 0; n_texs = 0; counts = zeros 10 };
    tables = replicate 10 lent;
    cleared = record { number = number; place = place; size = 0 };
    output = output 200;
  };
}

-- an accepted file of so many bytes and version: its counts, its tables' words, its copy
abbrev accepted : List ℕ → ℕ → ℕ → List ℕ → List (List ℕ) → List ℕ → Case
accepted bytes size version counts words copy = record {
  bytes = bytes;
  room = 200;
  told = record {
    size = size;
    answer = record { number = 0; place = 0; version = version; n_texs = 0; counts = counts };
    tables = map holding words;
    cleared = record { number = 0; place = 0; size = length copy };
    output = copy ++ drop (length copy) (output 200);
  };
}

-- of a node with this name place and length, kind, first and count, and no node below it
abbrev node_words : ℕ → ℕ → List ℕ → List ℕ
node_words place long kind = (place ∷ long ∷ NONE ∷ []) ++ zeros 10 ++ kind ++ zeros 5

-- one pivot with a name of this length, at 20
abbrev pivot_tables : ℕ → List (List ℕ)
pivot_tables long = [] ∷ [] ∷ node_words 20 long (zeros 3) ∷ replicate 7 []

abbrev one_node : List ℕ
one_node = zeros 2 ++ (1 ∷ []) ++ zeros 7

abbrev T-tables : List (List ℕ)
T-tables =
    [] ∷ [] ∷ node_words 20 0 (1 ∷ 0 ∷ 1 ∷ [])
    ∷ (0 ∷ NONE ∷ 0 ∷ 0 ∷ 0 ∷ 0 ∷ 3 ∷ 0 ∷ 1 ∷ [])
    ∷ zeros 126
    ∷ (0 ∷ NONE ∷ 0 ∷ 1 ∷ [])
    ∷ (0 ∷ 1 ∷ 2 ∷ [])
    ∷ replicate 3 []

unfoldable pub cases : List Case
cases =
    accepted (P 1) 12 1 (zeros 10) (replicate 10 []) (P 1)
    ∷ refused (zeros 11) 11 1 0
    ∷ accepted H 65 1 one_node (pivot_tables 4) H-cleared
    ∷ record {
      bytes = H;
      room = 60;
      told = record {
        size = 65;
        answer = record { number = 0; place = 0; version = 1; n_texs = 0; counts = one_node };
        tables = map holding (pivot_tables 4);
        cleared = record { number = 11; place = 61; size = 0 };
        output = output 60;
      };
    }
    ∷ accepted H-XTRA 76 1 one_node (pivot_tables 4) H-cleared
    ∷ accepted H-XTRA-inside 76 1 one_node (pivot_tables 4) H-cleared
    ∷ accepted H-cleared 61 1 one_node (pivot_tables 0) H-cleared
    ∷ refused (file 58 1 (a_node 41 [] (zeros 5))) 66 3 61
    ∷ accepted T 153 1 (0 ∷ 0 ∷ 1 ∷ 1 ∷ 3 ∷ 1 ∷ 1 ∷ 0 ∷ 0 ∷ 0 ∷ []) T-tables T
    ∷ refused (T-with 145 133 84 48 NONE (T-tris 3)) 153 7 149
    ∷ refused (T-with 145 133 84 48 0 (T-tris 2)) 153 7 69
    ∷ refused (T-with 121 109 60 48 NONE []) 129 8 61
    ∷ refused (T-with 145 133 84 47 NONE (T-tris 2)) 153 5 117
    ∷ accepted (P 99) 12 99 (zeros 10) (replicate 10 []) (P 99)
    ∷ refused (P 100) 12 6 8
    ∷ []

pub cases_hold : map said cases ≡ map (λ (c : Case). c.told) cases
unfolding computing cases
cases_hold = refl
