-- The theorem: the machine over a file, however it is cut, answers what the reader says of the file.
use mathlib.Core.Path.{◌≡◌, refl, ap, sym, subst, ◌∙◌}
use Prim.Native.Nat.{ℕ, suc, ◌+◌, ◌-◌, ◌<◌, ◌≤◌}
use native.Mathlib.Omega.{arith}
use mathlib.Core.Bool.{Bool, true, false, not, ◌&&◌}
use mathlib.Core.List.{List, [], ◌∷◌, ◌++◌}
use lib.ListN.{length, get_or}
use lib.Dec.{T, eqb, leb, leb→le, le→leb, nleb→lt, eqb→eq, not_T}
use Rattle.wire.specs.Test.{if}
use Rattle.wire.specs.Bytes.{word}
use Rattle.layout.specs.Result.{Result, accept, reject, check, ◌>>=◌}
use Rattle.layout.specs.Parts.{number, words, judged, row}
use Rattle.layout.proofs.ResultLaws.{bind_bind, if_yes, if_no, by_test, check-no}
use Rattle.layout.specs.Rows.{each_of, size_fits, most_bytes}
use Rattle.b3d_spec.specs.declared.Tag.TheVariants.{BB3D}
use Rattle.b3d_spec.specs.declared.Mode.TheVariants.{Strict}
use Rattle.b3d_spec.specs.Tags.{code}
use Rattle.b3d_spec.specs.Rules.{row_limit}
use Rattle.b3d_spec.specs.Scene.{Scene}
use Rattle.b3d_spec.specs.Tables.{rows, node_tables, tables, counts}
use Rattle.b3d_spec.specs.Parse.{read_body, parse}
use Rattle.b3d_spec.specs.Answers.{judge, answer}
use mir.Facts.{and_yes}
use Rattle.b3d_pieces_spec.specs.declared.Totals.{Totals}
use Rattle.b3d_pieces_spec.specs.Machine.{State, over, step, run}
use Rattle.b3d_pieces_spec.specs.Close.{body, inside, Held, head_byte, whole_byte, byte, piece, fresh_held, counts_of, ended, whole_ended, limited, closing, answer_of, close}
use Rattle.b3d_pieces_spec.proofs.RunLaws.{after}
use Rattle.b3d_pieces_spec.proofs.BodyRunLaws.{body_run}
use Rattle.b3d_pieces_spec.proofs.FileSumLaws.{scene_totals, body-out, scene-counts, scene-version, scene-slots}

-- ---- pieces

-- pieces one after the other are the bytes joined
pub piece-append : (h : Held) (a b : List ℕ) → piece h (a ++ b) ≡ piece (piece h a) b
piece-append h [] b = refl
piece-append h (x ∷ a) b = piece-append (byte h x) a b

abbrev held_in : ℕ → ℕ → ℕ → State → Held
held_in size tag n st = record { size = size; whole = inside tag n st }

-- with one more byte
abbrev grown : Held → ℕ → Held
grown h b = record { size = h.size + 1; whole = whole_byte h.whole b }

byte-on : (h : Held) (b : ℕ) → h.size ≤ most_bytes → byte h b ≡ record { size = h.size + 1; whole = whole_byte h.whole b }
unfolding byte
byte-on h b k = if_yes (leb h.size most_bytes) _ _ (le→leb h.size most_bytes k)

piece_inside : (size tag n : ℕ) (st : State) (s : List ℕ) → size + length s ≤ most_bytes + 1 → piece (held_in size tag n st) s ≡ held_in (size + length s) tag n (run st s)
unfolding whole_byte
piece_inside size tag n st [] k = let e : size ≡ size + 0 = omega arith in ap (λ (z : ℕ). held_in z tag n st) e
piece_inside size tag n st (b ∷ s) k =
    let e : size + 1 + length s ≡ size + suc (length s) = omega arith in
    ap (λ (h : Held). piece h s) (byte-on (held_in size tag n st) b (omega arith))
    ∙ piece_inside (size + 1) tag n (step st b) s (omega arith) ∙ ap (λ (z : ℕ). held_in z tag n (run (step st b) s)) e

piece-header : (a b c d e f g h : ℕ) (s : List ℕ) → 8 + length s ≤ most_bytes
    → piece fresh_held (a ∷ b ∷ c ∷ d ∷ e ∷ f ∷ g ∷ h ∷ s) ≡ held_in (8 + length s) (word a b c d) (word e f g h) (run (body (word e f g h)) s)
unfolding byte whole_byte head_byte word if
piece-header a b c d e f g h s k = piece_inside 8 (word a b c d) (word e f g h) (body (word e f g h)) s (omega arith)

-- ---- the size is counted, up to one more than the longest file

size_is : (h : Held) (s : List ℕ) → h.size + length s ≤ most_bytes → (piece h s).size ≡ h.size + length s
size_is h [] k = omega arith
size_is h (b ∷ s) k =
    let x : Held = record { size = h.size + 1; whole = whole_byte h.whole b } in
    let e = size_is x s (omega arith) in
    ap (λ (z : Held). (piece z s).size) (byte-on h b (omega arith)) ∙ omega arith

size-over : (h : Held) (s : List ℕ) → most_bytes < h.size + length s → most_bytes < (piece h s).size
unfolding byte
size-over h [] k = omega arith
size-over h (b ∷ s) k =
    by_test (leb h.size most_bytes)
    (λ t. subst (λ (z : Held). most_bytes < (piece z s).size) (sym (if_yes (leb h.size most_bytes) (grown h b) h t)) (size-over (grown h b) s (omega arith)))
    (λ t. subst (λ (z : Held). most_bytes < (piece z s).size) (sym (if_no (leb h.size most_bytes) (grown h b) h t)) (size-over h s (let q = nleb→lt h.size most_bytes t in omega arith)))

-- ---- checks 1 to 9

ended-after : (o : Result Totals) → ended (after o over) ≡ o
unfolding ended
ended-after (accept g) = refl
ended-after (reject n p) = refl

-- the machine's end, where the length is right
body_ended : (s : List ℕ) → ended (run (body (length s)) s) ≡ (read_body Strict 8 s >>= λ t. accept (scene_totals t))
body_ended s = ap ended (body_run s) ∙ ended-after _ ∙ body-out s

-- what is held, without check 10
abbrev held_out : Held → Result Totals
held_out h = check (size_fits h.size) 1 0 >>= λ _. whole_ended h.size h.whole

check-alike : {A B : Type 0} (b : Bool) (n p : ℕ) (f : Result B) (g : Result A) (k : A → Result B) → (T b → f ≡ (g >>= k)) → (check b n p >>= λ _. f) ≡ ((check b n p >>= λ _. g) >>= k)
unfolding check
check-alike true n p f g k h = h tt
check-alike false n p f g k h = refl

long-out : (a b c d e f g h : ℕ) (s : List ℕ)
    → held_out (held_in (8 + length s) (word a b c d) (word e f g h) (run (body (word e f g h)) s)) ≡ (parse Strict (a ∷ b ∷ c ∷ d ∷ e ∷ f ∷ g ∷ h ∷ s) >>= λ t. accept (scene_totals t))
unfolding parse whole_ended row words judged check
long-out a b c d e f g h s =
    let n : 8 + length s ≡ suc (suc (suc (suc (suc (suc (suc (suc (length s)))))))) = omega arith in
    let m : 8 + length s - 8 ≡ length s = omega arith in
    let w = word e f g h in
    rw (m, n)
    (check-alike (size_fits (suc (suc (suc (suc (suc (suc (suc (suc (length s)))))))))) 1 0 _ _ _ (λ _.
    check-alike (eqb (word a b c d) (code BB3D)) 2 0 _ _ _ (λ _.
    check-alike (eqb w (length s)) 2 4 _ _ _ (λ t.
    ap (λ (z : ℕ). ended (run (body z) s)) (eqb→eq w (length s) t) ∙ body_ended s))))

and_left : (a b : Bool) → T (a && b) → T a
and_left true b t = tt
and_left false b t = t

too_small : (n : ℕ) → n < 12 → T (not (size_fits n))
too_small n h = not_T (size_fits n) (λ t. let q = leb→le 12 n (and_left (leb 12 n) (leb n most_bytes) t) in absurd (omega arith))

too_big : (n : ℕ) → most_bytes < n → T (not (size_fits n))
too_big n h = not_T (size_fits n) (λ t. let q = leb→le n most_bytes (and_yes (leb 12 n) (leb n most_bytes) t).1 in absurd (omega arith))

-- 1
size-out : (s : List ℕ) → T (not (size_fits (piece fresh_held s).size)) → T (not (size_fits (length s))) → held_out (piece fresh_held s) ≡ (parse Strict s >>= λ t. accept (scene_totals t))
unfolding parse
size-out s h k = rw (check-no (size_fits (piece fresh_held s).size) 1 0 h, check-no (size_fits (length s)) 1 0 k)

short-out : (s : List ℕ) → length s < 12 → held_out (piece fresh_held s) ≡ (parse Strict s >>= λ t. accept (scene_totals t))
short-out s h = let e = size_is fresh_held s (omega arith) in size-out s (too_small (piece fresh_held s).size (omega arith)) (too_small (length s) h)

long : (a b c d e f g h : ℕ) (s : List ℕ) → held_out (piece fresh_held (a ∷ b ∷ c ∷ d ∷ e ∷ f ∷ g ∷ h ∷ s)) ≡ (parse Strict (a ∷ b ∷ c ∷ d ∷ e ∷ f ∷ g ∷ h ∷ s) >>= λ t. accept (scene_totals t))
long a b c d e f g h s =
    let u = a ∷ b ∷ c ∷ d ∷ e ∷ f ∷ g ∷ h ∷ s in
    by_test (leb (8 + length s) most_bytes)
    (λ t. ap held_out (piece-header a b c d e f g h s (leb→le (8 + length s) most_bytes t)) ∙ long-out a b c d e f g h s)
    (λ t. let q = nleb→lt (8 + length s) most_bytes t in
    size-out u (too_big (piece fresh_held u).size (size-over fresh_held u (omega arith))) (too_big (length u) (omega arith)))

pub parse-out : (s : List ℕ) → held_out (piece fresh_held s) ≡ (parse Strict s >>= λ t. accept (scene_totals t))
parse-out [] = short-out [] (omega arith)
parse-out (a ∷ []) = short-out (a ∷ []) (omega arith)
parse-out (a ∷ b ∷ []) = short-out (a ∷ b ∷ []) (omega arith)
parse-out (a ∷ b ∷ c ∷ []) = short-out (a ∷ b ∷ c ∷ []) (omega arith)
parse-out (a ∷ b ∷ c ∷ d ∷ []) = short-out (a ∷ b ∷ c ∷ d ∷ []) (omega arith)
parse-out (a ∷ b ∷ c ∷ d ∷ e ∷ []) = short-out (a ∷ b ∷ c ∷ d ∷ e ∷ []) (omega arith)
parse-out (a ∷ b ∷ c ∷ d ∷ e ∷ f ∷ []) = short-out (a ∷ b ∷ c ∷ d ∷ e ∷ f ∷ []) (omega arith)
parse-out (a ∷ b ∷ c ∷ d ∷ e ∷ f ∷ g ∷ []) = short-out (a ∷ b ∷ c ∷ d ∷ e ∷ f ∷ g ∷ []) (omega arith)
parse-out (a ∷ b ∷ c ∷ d ∷ e ∷ f ∷ g ∷ h ∷ s) = long a b c d e f g h s

-- ---- check 10, and the answer

limits-alike : (t : Scene) (cs : List ℕ) → cs ≡ counts t
    → each_of 10 (λ (k : ℕ). leb (get_or cs (k - 1) 0) row_limit) tables ≡ each_of 10 (λ k. leb (length (rows k t)) row_limit) tables
unfolding each_of tables node_tables counts
limits-alike t cs e = rw e

answer_got : (t : Scene) → answer_of (accept (scene_totals t)) ≡ answer (accept t)
unfolding answer_of answer
answer_got t = λ i. record { number = 0; place = 0; version = scene-version t i; n_texs = scene-slots t i; counts = scene-counts t i }

answer-bad : (n p : ℕ) → answer_of (reject n p) ≡ answer (reject n p)
unfolding answer_of answer
answer-bad n p = refl

limited-alike : (t : Scene) (o : Result (Unit {0})) → answer_of (o >>= λ _. accept (scene_totals t)) ≡ answer (o >>= λ _. accept t)
limited-alike t (accept x) = answer_got t
limited-alike t (reject n p) = answer-bad n p

answer-alike : (o : Result Scene)
    → answer_of ((o >>= λ t. accept (scene_totals t)) >>= limited) ≡ answer (o >>= λ t. each_of 10 (λ k. leb (length (rows k t)) row_limit) tables >>= λ _. accept t)
unfolding limited
answer-alike (accept t) = rw (limits-alike t (counts_of (scene_totals t)) (scene-counts t)) (limited-alike t (each_of 10 (λ k. leb (length (rows k t)) row_limit) tables))
answer-alike (reject n p) = answer-bad n p

-- the theorem
pub whole : (s : List ℕ) → close (piece fresh_held s) ≡ answer (judge Strict s)
unfolding close closing judge
whole s =
    ap answer_of (sym (bind_bind (check (size_fits (piece fresh_held s).size) 1 0) _ _) ∙ ap (λ (o : Result Totals). o >>= limited) (parse-out s))
    ∙ answer-alike (parse Strict s)

-- pieces, however they are cut
abbrev pub pieces : Held → List (List ℕ) → Held
pieces h [] = h
pieces h (s ∷ l) = pieces (piece h s) l

abbrev pub joined : List (List ℕ) → List ℕ
joined [] = []
joined (s ∷ l) = s ++ joined l

pieces-joined : (h : Held) (l : List (List ℕ)) → pieces h l ≡ piece h (joined l)
pieces-joined h [] = refl
pieces-joined h (s ∷ l) = pieces-joined (piece h s) l ∙ sym (piece-append h s (joined l))

pub in_pieces : (l : List (List ℕ)) → close (pieces fresh_held l) ≡ answer (judge Strict (joined l))
in_pieces l = ap close (pieces-joined fresh_held l) ∙ whole (joined l)
