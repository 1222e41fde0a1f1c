-- The lister's text is no longer than its output, whatever the file; and the bytes that the lister leaves unread make no difference.
use mathlib.Core.Path.{◌≡◌, refl, sym}
use Prim.Native.Nat.{ℕ, ◌+◌, ◌<◌, ◌≤◌}
use native.Mathlib.Omega.{arith}
use mathlib.Core.Bool.{Bool, true, false}
use mathlib.Core.List.{List, [], ◌∷◌, ◌++◌, map}
use lib.ListN.{length, take, drop, length-append, length-map}
use lib.Seq.{take_all, take-append_seam, length-take-le}
use lib.Dec.{leb, ltb, ltb→lt, nltb→le}
use borrow.Author.Tests.{lt-ltb, le-ltb}
use Rattle.wire.specs.Test.{if}
use Rattle.wire.specs.Bytes.{AllBytes, IsWord, over}
use Rattle.layout.specs.Result.{Result, accept, reject, check, ◌>>=◌}
use Rattle.layout.proofs.AllLaws.{All, all_map}
use Rattle.layout.proofs.RefusalLaws.{OneToNine}
use Rattle.layout.proofs.ResultLaws.{by_test, bad_got}
use Rattle.layout.specs.Rows.{each_of, most_bytes}
use Rattle.b3d_spec.specs.Answers.{judge}
use Rattle.b3d_spec.specs.declared.Mode.TheVariants.{Strict}
use Rattle.b3d_spec.specs.Parse.{parse}
use Rattle.b3d_spec.specs.Rules.{row_limit}
use Rattle.b3d_spec.specs.Scene.{Brush, Forest, no_nodes, node, Scene}
use Rattle.b3d_spec.specs.Sizes.{nodes_size}
use Rattle.b3d_spec.specs.Tables.{counts, tables, node_tables, rows}
use Rattle.b3d_spec.proofs.AnswerLaws.{judge_got}
use Rattle.b3d_spec.proofs.WellFormedLaws.{FitSlots}
use Rattle.b3d_spec.proofs.Laws.{refused}
use Rattle.b3d_spec.proofs.RefusalLaws.{judge-place}
use Rattle.b3d_list_text.specs.Puts.{Puts}
use Rattle.b3d_list_text.specs.Text.{shown, number_line, text_line}
use Rattle.b3d_list_text.proofs.PutLaws.{put_inside, put_whole, put-size}
use Rattle.b3d_list_text.proofs.LengthLaws.{numbers-length}
use Rattle.b3d_list_spec.specs.Listing.{most_listed, most_printed, name_or_word, node_lines, listed, listing, Lists}
use Rattle.b3d_list_spec.proofs.NameLineLaws.{fits, nodes-bytes}

-- ---- nodes

name-length : (b : List ℕ) → length (name_or_word b) ≤ length b + 7
unfolding name_or_word
name-length [] = omega arith
name-length (c ∷ b) = omega arith

line-length : (w : List ℕ) → length (text_line w) ≡ length w + 1
unfolding text_line
line-length w = omega (arith, length-append (map shown w) (10 ∷ []), length-map w shown)

-- a node's line is no longer than the node in the file
nodes-length : (f : Forest) → length (node_lines f) ≤ nodes_size f
unfolding node_lines
nodes-length no_nodes = omega arith
nodes-length (node d f g) =
    let w = name_or_word d.name.bytes in
    omega (
      arith,
      nodes-length f,
      nodes-length g,
      name-length d.name.bytes,
      line-length w,
      length-append (text_line w) (node_lines f ++ node_lines g),
      length-append (node_lines f) (node_lines g),
    )

-- ---- numbers

slots-word : (n : ℕ) (l : List Brush) → FitSlots n l → IsWord n
slots-word n [] h = omega arith
slots-word n (b ∷ l) h = h.0

counts-words : (t : Scene) → All (λ k. length (rows k t) ≤ row_limit) tables → All IsWord (counts t)
unfolding counts tables node_tables
counts-words t h = all_map (λ k. length (rows k t) ≤ row_limit) (λ k. IsWord (length (rows k t))) (λ k l. omega arith) tables h

-- a refusal has a number from 1 to 10
each_step : (b : Bool) (o : Result (Unit {0})) (t : Scene) (n k m p : ℕ) → ((o >>= λ _. accept t) ≡ reject m p → m ≡ n) → ((check b n k >>= λ _. o) >>= λ _. accept t) ≡ reject m p → m ≡ n
unfolding check
each_step true o t n k m p f e = f e
each_step false o t n k m p f e = cc

each_number : (n : ℕ) (ok : ℕ → Bool) (t : Scene) (ks : List ℕ) (m p : ℕ) → (each_of n ok ks >>= λ _. accept t) ≡ reject m p → m ≡ n
unfolding each_of
each_number n ok t [] m p e = bad_got (sym e)
each_number n ok t (k ∷ ks) m p e = each_step (ok k) (each_of n ok ks) t n k m p (each_number n ok t ks m p) e

judge-number : (s : List ℕ) (n p : ℕ) → judge Strict s ≡ reject n p → n ≤ 10
unfolding judge
judge-number s n p e = go (parse Strict s) (refused Strict s) e
  where
    go : (o : Result Scene) → ((m q : ℕ) → o ≡ reject m q → OneToNine m) → (o >>= λ t. each_of 10 (λ k. leb (length (rows k t)) row_limit) tables >>= λ _. accept t) ≡ reject n p → n ≤ 10
    go (accept t) h e = omega (arith, each_number 10 (λ k. leb (length (rows k t)) row_limit) t tables n p e)
    go (reject m q) h e = let z : n ≡ m = cc in omega (arith, (h m q refl).1)

-- ---- the whole text

accepted-length : (s : List ℕ) (t : Scene) → AllBytes s → judge Strict s ≡ accept t → length (listed (accept t)) ≤ length s + 142
unfolding listed counts tables node_tables
accepted-length s t b e =
    let j = judge_got Strict s t e in
    let f = fits s t b j.0 in
    let first = number_line (0 ∷ 0 ∷ []) in
    let second = number_line (t.version ∷ t.slots ∷ []) in
    let third = number_line (counts t) in
    omega (
      arith,
      numbers-length (0 ∷ 0 ∷ []) (omega arith, (omega arith, tt)),
      numbers-length (t.version ∷ t.slots ∷ []) (f.version.0, (slots-word t.slots t.brushes f.slots, tt)),
      numbers-length (counts t) (counts-words t j.1),
      nodes-length t.nodes,
      nodes-bytes s t b j.0,
      length-append first (second ++ (third ++ node_lines t.nodes)),
      length-append second (third ++ node_lines t.nodes),
      length-append third (node_lines t.nodes),
    )

refused-length : (n p : ℕ) → n ≤ 10 → p ≤ most_bytes → length (listed (reject n p)) ≤ 22
unfolding listed
refused-length n p h k = numbers-length (n ∷ p ∷ []) (omega arith, (omega arith, tt))

listed-length : (s : List ℕ) (o : Result Scene) → AllBytes s → judge Strict s ≡ o → length (listed o) ≤ length s + 142
listed-length s (accept t) b e = accepted-length s t b e
listed-length s (reject n p) b e = omega (arith, refused-length n p (judge-number s n p e) (judge-place Strict s n p e))

-- of a file that is too long, and of any other
pub listing-over : (s : List ℕ) → most_listed < length s → listing s ≡ number_line (1 ∷ 0 ∷ [])
unfolding listing if
listing-over s h = rw (lt-ltb most_listed (length s) h)

pub listing-short : (s : List ℕ) → length s ≤ most_listed → listing s ≡ listed (judge Strict s)
unfolding listing if
listing-short s h = rw (le-ltb most_listed (length s) h)

pub listing-length : (s : List ℕ) → AllBytes s → length (listing s) ≤ most_printed
listing-length s b =
    by_test (ltb most_listed (length s))
    (λ t. rw (listing-over s (ltb→lt most_listed (length s) t)) (omega (arith, numbers-length (1 ∷ 0 ∷ []) (omega arith, (omega arith, tt)))))
    (λ t. let h = nltb→le most_listed (length s) t in rw (listing-short s h) (omega (arith, listed-length s (judge Strict s) b refl)))

-- a byte more than the limit is as good as the whole file
pub listing-cut : (s : List ℕ) → listing (take 65537 s) ≡ listing s
unfolding listing if
listing-cut s =
    by_test (ltb most_listed (length s))
    (λ t. let h = ltb→lt most_listed (length s) t in rw (lt-ltb most_listed (length (take 65537 s)) (omega (arith, length-take-le 65537 s (omega arith))), lt-ltb most_listed (length s) h))
    (λ t. let h = nltb→le most_listed (length s) t in rw (take_all 65537 s (omega arith)))

-- ---- `list`

pub list-whole : (s xs ys : List ℕ) (r : ℕ) → AllBytes s → length xs ≡ 65678 → Puts (listing s) xs 0 ys r → Lists s xs ys r
unfolding over
list-whole s xs ys r b e h =
    let w = listing s in
    let k : length w ≤ length xs = omega (arith, listing-length s b) in
    let t = put_whole w xs ys r h k in
    let n = put-size w xs ys r h k in
    record { text = t; bytes = n; inside = put_inside w xs 0 ys r h; printed = rw (t, n) (take-append_seam w (drop (length w) xs)) }

-- the text is as many bytes of the output as `list` says
pub list_counts : (s xs ys : List ℕ) (r : ℕ) → Lists s xs ys r → r ≡ length (take r ys)
list_counts s xs ys r h = rw h.printed h.bytes
