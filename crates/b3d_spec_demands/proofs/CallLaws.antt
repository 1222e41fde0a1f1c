-- The demands hold in what a caller sees.
use mathlib.Core.Logic.{◌⊎◌, inl, inr}
use mathlib.Core.Path.{◌≡◌, refl, ap, ap₂, sym, ◌∙◌, subst}
use Prim.Native.Nat.{ℕ, ◌*◌, ◌≤◌, ◌<◌}
use native.Mathlib.Omega.{arith}
use mathlib.Core.List.{List, [], ◌∷◌, ◌++◌, map}
use lib.ListN.{length, take, drop, length-append, length-drop}
use lib.Seq.{take-append_seam, drop-append_seam}
use lib.Dec.{leb, leb→le, nleb→lt}
use borrow.Author.Tests.{lt-leb, le-leb}
use Rattle.wire.specs.Bytes.{AllBytes, over}
use Rattle.layout.specs.Result.{Result, accept, reject, check, ◌>>=◌}
use Rattle.layout.proofs.AllLaws.{All, all_map, all-zip}
use Rattle.layout.proofs.ResultLaws.{by_test, bad_got, got_inj}
use Rattle.layout.specs.Rows.{each_of, joined}
use Rattle.b3d_spec.specs.declared.Mode.{Mode}
use Rattle.b3d_spec.specs.declared.Mode.TheVariants.{Lenient}
use Rattle.b3d_spec.specs.Answers.{judge, read, answer, table_after, read_answer, read_table, room_for, write, written, output_after, write_answer, write_output, copy, clear, clear_answer, clear_output}
use Rattle.b3d_spec.specs.Names.{named, unplaced, name_off}
use Rattle.b3d_spec.specs.Parse.{parse}
use Rattle.b3d_spec.specs.Rebuild.{Lent, cut, lent_rows}
use Rattle.b3d_spec.specs.Rules.{row_limit}
use Rattle.b3d_spec.specs.Scene.{Scene}
use Rattle.b3d_spec.specs.Tables.{width, rows, table, tables, node_tables, counts}
use Rattle.b3d_spec.specs.declared.Written.{Written}
use Rattle.b3d_spec.proofs.AnswerLaws.{judge_got, read_got}
use Rattle.b3d_spec.proofs.RefusalLaws.{parse-refusal}
use Rattle.b3d_spec.proofs.Laws.{fine}
use Rattle.b3d_spec.proofs.Rows.CountLaws.{table_length}
use Rattle.b3d_spec.proofs.Rows.RebuildLaws.{rows-wide}
use Rattle.b3d_spec.proofs.Rows.RowListLaws.{cut-length, cut-words}
use Rattle.b3d_spec.proofs.Rows.RowPartLaws.{Wide}
use Rattle.b3d_spec_demands.specs.Having.{names_of, Has, filled, ReadBack, emptied}
use Rattle.b3d_spec_demands.specs.Demands.{Lowest, Alike}
use Rattle.b3d_spec_demands.specs.Calls.{ReaderSays, Leaves, WriterSays, ClearerSays, IsAlike, copy_in, OneCopy, TellsApart, Rewritten}
use Rattle.b3d_spec_demands.proofs.LowestTableLaws.{lowest-is}
use Rattle.b3d_spec_demands.proofs.SoundTableLaws.{named-length, same-many}
use Rattle.b3d_spec_demands.proofs.WriterDemandLaws.{demand_2, verdict, has-read}
use Rattle.b3d_spec_demands.proofs.ClearerDemandLaws.{same_copy, demand_3}

-- ---- numbers

bind_bad : {A B : Type 0} (m : Result A) (k : A → Result B) (n p : ℕ) → (m >>= k) ≡ reject n p → (m ≡ reject n p) ⊎ ((a : A) × (m ≡ accept a) × (k a ≡ reject n p))
bind_bad (accept a) k n p e = inr (a, refl, e)
bind_bad (reject m q) k n p e = let x : m ≡ n = cc in let y : q ≡ p = cc in inl (ap₂ reject x y)

module _ (n : ℕ) (size : ℕ → Scene → ℕ) (most : ℕ → ℕ) where
  held-bad : (t : Scene) (m p : ℕ) → (each_of n (λ k. leb (size k t) (most k)) tables >>= λ u. accept t) ≡ reject m p → (m ≡ n) × Lowest (λ k. size k t ≤ most k) p
  held-bad t m p e =
      elim (bind_bad (each_of n (λ k. leb (size k t) (most k)) tables) (λ u. accept t) m p e) [
        | inl f ↦ lowest-is n (λ k. size k t) most m p f
        | inr x ↦ bad_got (sym x.2)
      ]

judge-bad : (mode : Mode) (s : List ℕ) (n p : ℕ) → judge mode s ≡ reject n p → (parse mode s ≡ reject n p) ⊎ ((t : Scene) × (parse mode s ≡ accept t) × (n ≡ 10) × Lowest (λ k. length (rows k t) ≤ row_limit) p)
unfolding judge
judge-bad mode s n p e =
    elim (bind_bad (parse mode s) _ n p e) [
      | inl f ↦ inl f
      | inr x ↦ (let h = held-bad 10 (λ k t. length (rows k t)) (λ k. row_limit) x.0 n p x.2 in inr (x.0, x.1, h.0, h.1))
    ]

read_bad : (mode : Mode) (room : ℕ → ℕ) (s : List ℕ) (n p : ℕ) → read mode room s ≡ reject n p → (judge mode s ≡ reject n p) ⊎ ((t : Scene) × (judge mode s ≡ accept t) × (n ≡ 11) × Lowest (λ k. width k * length (rows k t) ≤ room k) p)
unfolding read
read_bad mode room s n p e =
    elim (bind_bad (judge mode s) _ n p e) [
      | inl f ↦ inl f
      | inr x ↦ (let h = held-bad 11 (λ k t. width k * length (rows k t)) room x.0 n p x.2 in inr (x.0, x.1, h.0, h.1))
    ]

-- 1 to 10, then 1 to 11
judge-number : (mode : Mode) (s : List ℕ) (n p : ℕ) → judge mode s ≡ reject n p → (1 ≤ n) × (n ≤ 10)
judge-number mode s n p e =
    elim (judge-bad mode s n p e) [
      | inl f ↦ (let h = parse-refusal mode s n p f in (h.0, omega (arith, h.1)))
      | inr x ↦ (omega (arith, x.2), omega (arith, x.2))
    ]

read_number : (mode : Mode) (room : ℕ → ℕ) (s : List ℕ) (n p : ℕ) → read mode room s ≡ reject n p → (1 ≤ n) × (n ≤ 11)
read_number mode room s n p e =
    elim (read_bad mode room s n p e) [
      | inl f ↦ (let h = judge-number mode s n p f in (h.0, omega (arith, h.1)))
      | inr x ↦ (omega (arith, x.2), omega (arith, x.2))
    ]

judge-ten : (mode : Mode) (s : List ℕ) (p : ℕ) → judge mode s ≡ reject 10 p → (t : Scene) × (parse mode s ≡ accept t) × Lowest (λ k. length (rows k t) ≤ row_limit) p
judge-ten mode s p e =
    elim (judge-bad mode s 10 p e) [
      | inl g ↦ absurd (omega (arith, (parse-refusal mode s 10 p g).1))
      | inr x ↦ (x.0, x.1, x.3)
    ]

-- ---- reader

module _ (mode : Mode) (room : ℕ → ℕ) (s : List ℕ) where
  reader-ten : (p : ℕ) → read mode room s ≡ reject 10 p → (t : Scene) × (parse mode s ≡ accept t) × Lowest (λ k. length (rows k t) ≤ row_limit) p
  reader-ten p e =
      elim (read_bad mode room s 10 p e) [
        | inl f ↦ judge-ten mode s p f
        | inr x ↦ absurd (omega (arith, x.2))
      ]

  reader-eleven : (p : ℕ) → read mode room s ≡ reject 11 p → (t : Scene) × (judge mode s ≡ accept t) × Lowest (λ k. width k * length (rows k t) ≤ room k) p
  reader-eleven p e =
      elim (read_bad mode room s 11 p e) [
        | inl f ↦ absurd (omega (arith, (judge-number mode s 11 p f).1))
        | inr x ↦ (x.0, x.1, x.3)
      ]

  pub reader-says : ReaderSays mode room s (read_answer mode room s)
  unfolding read_answer answer read_table table_after
  reader-says = by (read mode room s) refl
    where
      by : (o : Result Scene) → read mode room s ≡ o → ReaderSays mode room s (answer o)
      by (accept t) e = record {
        accepted = λ z. (t, e);
        zero = λ u f. refl;
        most = omega arith;
        untouched = λ d. absurd (d refl);
        ten = λ z. absurd (omega arith);
        eleven = λ z. absurd (omega arith);
      }
      by (reject n p) e = record {
        accepted = λ z. absurd (omega (arith, (read_number mode room s n p e).0));
        zero = λ u f. bad_got (sym e ∙ f);
        most = (read_number mode room s n p e).1;
        untouched = λ d k xs. rw e;
        ten = λ z. reader-ten p (e ∙ ap (λ (i : ℕ). reject i p) z);
        eleven = λ z. reader-eleven p (e ∙ ap (λ (i : ℕ). reject i p) z);
      }

-- ---- outputs

over-front : (b out : List ℕ) → take (length b) (over b out) ≡ b
unfolding over
over-front b out = take-append_seam b (drop (length b) out)

over-rest : (b out : List ℕ) → drop (length b) (over b out) ≡ drop (length b) out
unfolding over
over-rest b out = drop-append_seam b (drop (length b) out)

over-long : (b out : List ℕ) → length b ≤ length out → length (over b out) ≡ length out
unfolding over
over-long b out h = omega (arith, length-append b (drop (length b) out), length-drop (length b) out)

leaves_got : (b out : List ℕ) → length b ≤ length out → Leaves out (written (accept b)) (output_after (accept b) out)
unfolding written output_after
leaves_got b out h = record { long = over-long b out h; untouched = λ d. absurd (d refl); stay = λ z. (h, over-rest b out) }

leaves-bad : (n p : ℕ) (out : List ℕ) → 1 ≤ n → Leaves out (written (reject n p)) (output_after (reject n p) out)
unfolding written output_after
leaves-bad n p out h = record { long = refl; untouched = λ d. (refl, refl); stay = λ z. absurd (omega arith) }

room-yes : (room : ℕ) (b : List ℕ) → length b ≤ room → room_for room b ≡ accept b
unfolding room_for check
room-yes room b h = rw (le-leb (length b) room h)

room-no : (room : ℕ) (b : List ℕ) → room < length b → room_for room b ≡ reject 11 (length b)
unfolding room_for check
room-no room b h = rw (lt-leb (length b) room h)

-- ---- what the reader fills of an accepted file

module _ (mode : Mode) (xs : ℕ → List ℕ) (s : List ℕ) (bytes : AllBytes s) (t : Scene) (e : read mode (λ k. length (xs k)) s ≡ accept t) where
  abbrev F : Lent
  F = filled mode xs s

  filled-version : t.version ≡ F.version
  unfolding filled read_answer answer
  filled-version = rw e

  filled-slots : t.slots ≡ F.slots
  unfolding filled read_answer answer
  filled-slots = rw e

  filled-counts : All (λ k. F.count k ≡ length (rows k t)) tables
  unfolding filled read_answer answer counts tables node_tables
  filled-counts = rw e (refl, (refl, (refl, (refl, (refl, (refl, (refl, (refl, (refl, (refl, tt))))))))))

  filled-words : (k : ℕ) → F.words k ≡ joined (rows k t) ++ drop (length (table k t)) (xs k)
  unfolding filled read_table table_after over table
  filled-words k = rw e

  accepted : judge mode s ≡ accept t
  accepted = (read_got mode (λ k. length (xs k)) s t e).0

  filled-rows : All (λ k. lent_rows F k ≡ rows k t) tables
  unfolding lent_rows
  filled-rows =
      all-zip (λ k. All (Wide (width k)) (rows k t)) (λ k. F.count k ≡ length (rows k t)) _
      (λ k w c. ap₂ (cut (width k)) c (filled-words k) ∙ cut-words (width k) (rows k t) (drop (length (table k t)) (xs k)) w) tables
      (rows-wide t (fine mode s t bytes (judge_got mode s t accepted).0).0) filled-counts

  filled-lent : All (λ k. width k * F.count k ≤ length (F.words k)) tables
  unfolding table
  filled-lent =
      all-zip (λ k. length (joined (rows k t)) ≡ width k * length (rows k t)) (λ k. F.count k ≡ length (rows k t)) _
      (λ k l c. let n = ap length (filled-words k) in
      let m = length-append (joined (rows k t)) (drop (length (joined (rows k t))) (xs k)) in
      let z : width k * F.count k ≡ width k * length (rows k t) = ap (λ (i : ℕ). width k * i) c in
      omega arith) tables
      (table_length t (fine mode s t bytes (judge_got mode s t accepted).0).0) filled-counts

  filled-has : Has mode s F s
  filled-has = record {
    scene = t;
    accepted = accepted;
    lent = filled-lent;
    version = filled-version;
    slots = filled-slots;
    cells = all_map (λ k. lent_rows F k ≡ rows k t) _ (λ k r. ap (named unplaced k) (sym r)) tables filled-rows;
    names = all_map (λ k. lent_rows F k ≡ rows k t) _ (λ k r. ap (names_of s k) (sym r)) tables filled-rows;
  }

  -- of a file that has the tables L
  module _ (L : Lent) (ns : List ℕ) (h : Has mode s L ns) where
    same-scene : t ≡ h.scene
    same-scene = got_inj (sym accepted ∙ h.accepted)

    back-rows : All (λ k. lent_rows F k ≡ rows k h.scene) tables
    back-rows = all_map (λ k. lent_rows F k ≡ rows k t) _ (λ k r. r ∙ ap (rows k) same-scene) tables filled-rows

    back-zero : (read_answer mode (λ k. length (xs k)) s).number ≡ 0
    unfolding read_answer answer
    back-zero = rw e

    filled-back : ReadBack mode s L ns xs
    unfolding lent_rows
    filled-back = record {
      accepted = back-zero;
      version = sym filled-version ∙ ap (λ (u : Scene). u.version) same-scene ∙ h.version;
      slots = sym filled-slots ∙ ap (λ (u : Scene). u.slots) same-scene ∙ h.slots;
      counts = all-zip (λ k. F.count k ≡ length (rows k t)) (λ k. named unplaced k (rows k h.scene) ≡ named unplaced k (lent_rows L k)) _
          (λ k a c. a ∙ ap (λ (u : Scene). length (rows k u)) same-scene ∙ same-many k (rows k h.scene) (lent_rows L k) c ∙ cut-length (width k) (L.count k) (L.words k)) tables filled-counts h.cells;
      cells = all-zip (λ k. lent_rows F k ≡ rows k h.scene) (λ k. named unplaced k (rows k h.scene) ≡ named unplaced k (lent_rows L k)) _
          (λ k r c. ap (named unplaced k) r ∙ c) tables back-rows h.cells;
      names = all-zip (λ k. lent_rows F k ≡ rows k h.scene) (λ k. names_of s k (rows k h.scene) ≡ names_of ns k (lent_rows L k)) _ (λ k r c. ap (names_of s k) r ∙ c) tables back-rows h.names;
    }

-- a file that has the tables reads back as them
has-back : (mode : Mode) (b : List ℕ) → AllBytes b → (L : Lent) (ns : List ℕ) → Has mode b L ns → (xs : ℕ → List ℕ) → All (λ k. width k * L.count k ≤ length (xs k)) tables → ReadBack mode b L ns xs
has-back mode b bytes L ns h xs fits = filled-back mode xs b bytes h.scene (has-read mode b L ns h (λ k. length (xs k)) fits) L ns h

-- ---- writer

module _ (mode : Mode) (T : Lent) (ns out : List ℕ) where
  abbrev WSays : Result (List ℕ) → Type 0
  WSays o = WriterSays mode T ns out (written o) (output_after o out)

  unsound-says : ((s : List ℕ) → AllBytes s → Has mode s T ns → ⊥) → WSays (reject 12 0)
  unfolding written output_after
  unsound-says none_has = record {
    numbers = inr (inr refl);
    leaves = leaves-bad 12 0 out (omega arith);
    twelve = λ z. (refl, none_has);
    no_file = λ n. refl;
    zero = λ z. absurd (omega arith);
    read_back = λ z. absurd (omega arith);
    eleven = λ z. absurd (omega arith);
    least = λ s b h. absurd (none_has s b h);
    given_room = λ s b h le. absurd (none_has s b h);
  }

  module _ (b : List ℕ) (bytes : AllBytes b) (h : Has mode b T ns) (eb : write mode T ns (length b) ≡ accept b) where
    shortest : (s : List ℕ) → AllBytes s → Has mode s T ns → length b ≤ length s
    shortest = (demand_2 mode T ns).least (length b) b eb

    written-says : length b ≤ length out → WSays (accept b)
    unfolding written output_after
    written-says le =
        let f = sym (over-front b out) in
        record {
          numbers = inl refl;
          leaves = leaves_got b out le;
          twelve = λ z. absurd (omega arith);
          no_file = λ no. absurd (no b bytes h);
          zero = λ z. (refl, subst AllBytes f bytes, subst (λ (c : List ℕ). Has mode c T ns) f h);
          read_back = λ z xs fits. subst (λ (c : List ℕ). ReadBack mode c T ns xs) f (has-back mode b bytes T ns h xs fits);
          eleven = λ z. absurd (omega arith);
          least = λ s c k. (shortest s c k, omega arith);
          given_room = λ s c k l. refl;
        }

    short-says : length out < length b → WSays (reject 11 (length b))
    unfolding written output_after
    short-says lt = record {
      numbers = inr (inl refl);
      leaves = leaves-bad 11 (length b) out (omega arith);
      twelve = λ z. absurd (omega arith);
      no_file = λ no. absurd (no b bytes h);
      zero = λ z. absurd (omega arith);
      read_back = λ z. absurd (omega arith);
      eleven = λ z. (lt, (b, refl, bytes, h));
      least = λ s c k. (omega arith, shortest s c k);
      given_room = λ s c k l. absurd (omega (arith, shortest s c k));
    }

    -- by the room
    either_says : ((r : ℕ) → write mode T ns r ≡ room_for r b) → WSays (write mode T ns (length out))
    either_says is =
        by_test (leb (length b) (length out))
        (λ t. let le = leb→le (length b) (length out) t in subst WSays (sym (is (length out) ∙ room-yes (length out) b le)) (written-says le))
        (λ t. let lt = nleb→lt (length b) (length out) t in subst WSays (sym (is (length out) ∙ room-no (length out) b lt)) (short-says lt))

  pub writer_says : WriterSays mode T ns out (write_answer mode T ns out) (write_output mode T ns out)
  unfolding write_answer write_output
  writer_says =
      elim (verdict mode T ns (length out)) [
        | inl e ↦ subst WSays (sym e) (unsound-says (λ s b h. (demand_2 mode T ns).unsound (length out) e s b h))
        | inr x ↦ either_says x.0 x.1 x.2 (x.3 (length x.0) ∙ room-yes (length x.0) x.0 (omega arith)) x.3
      ]

-- ---- clearer

module _ (s : List ℕ) (bytes : AllBytes s) (out : List ℕ) where
  abbrev CSays : Result (List ℕ) → Type 0
  CSays o = ClearerSays s out (written o) (output_after o out)

  module _ (o : Result (List ℕ)) (e : clear s (length out) ≡ o) where
    cleared-again : (t : Scene) → judge Lenient s ≡ accept t → (out' : List ℕ) → length out ≡ length out' → clear (copy t) (length out') ≡ o
    cleared-again t et out' l = (demand_3 s bytes).again t et (length out') ∙ ap (clear s) (sym l) ∙ e

    answer-again : (t : Scene) → judge Lenient s ≡ accept t → (out' : List ℕ) → length out ≡ length out' → clear_answer (copy t) out' ≡ written o
    unfolding clear_answer
    answer-again t et out' l = ap written (cleared-again t et out' l)

    output-again : (t : Scene) → judge Lenient s ≡ accept t → (out' : List ℕ) → length out ≡ length out' → clear_output (copy t) out' ≡ output_after o out'
    unfolding clear_output
    output-again t et out' l = ap (λ (x : Result (List ℕ)). output_after x out') (cleared-again t et out' l)

  module _ (t : Scene) (et : judge Lenient s ≡ accept t) where
    same_length : (u : Scene) → judge Lenient s ≡ accept u → length (copy t) ≡ length (copy u)
    same_length u eu = ap (λ (x : Scene). length (copy x)) (got_inj (sym et ∙ eu))

    emptied-count : (k : ℕ) → (emptied t).count k ≡ length (rows k t)
    unfolding emptied
    emptied-count k = refl

    copy-back : (ns : List ℕ) (xs : ℕ → List ℕ) → All (λ k. width k * length (rows k t) ≤ length (xs k)) tables → ReadBack Lenient (copy t) (emptied t) ns xs
    copy-back ns xs fits =
        has-back Lenient (copy t) ((demand_3 s bytes).bytes t et) (emptied t) ns ((demand_3 s bytes).emptied_has t et ns) xs
        (all_map (λ k. width k * length (rows k t) ≤ length (xs k)) _ (λ k f. subst (λ (n : ℕ). width k * n ≤ length (xs k)) (sym (emptied-count k)) f) tables fits)

    copy-says : length (copy t) ≤ length out → CSays (accept (copy t))
    unfolding written output_after
    copy-says le =
        let e = (demand_3 s bytes).enough t et (length out) le in
        record {
          most = omega arith;
          leaves = leaves_got (copy t) out le;
          zero = λ z. (refl, (t, et, over-front (copy t) out));
          read_back = λ u eu z ns xs fits.
              subst (λ (c : List ℕ). ReadBack Lenient c (emptied u) ns xs) (sym (over-front (copy t) out))
              (subst (λ (x : Scene). All (λ k. width k * length (rows k x) ≤ length (xs k)) tables → ReadBack Lenient (copy t) (emptied x) ns xs) (got_inj (sym et ∙ eu)) (copy-back ns xs) fits);
          eleven = λ z. absurd (omega arith);
          short = λ u eu lt. absurd (omega (arith, same_length u eu));
          enough = λ u eu l. refl;
          first = λ n p eb. bad_got (sym eb ∙ et);
          ten = λ z. absurd (omega arith);
          again = answer-again (accept (copy t)) e;
          again_bytes = λ u eu out' l z. ap (take (length (copy t))) (output-again (accept (copy t)) e u eu out' l) ∙ over-front (copy t) out' ∙ ap copy (got_inj (sym et ∙ eu));
        }

    copy-short-says : length out < length (copy t) → CSays (reject 11 (length (copy t)))
    unfolding written output_after
    copy-short-says lt =
        let e = (demand_3 s bytes).short t et (length out) lt in
        record {
          most = omega arith;
          leaves = leaves-bad 11 (length (copy t)) out (omega arith);
          zero = λ z. absurd (omega arith);
          read_back = λ u eu z. absurd (omega arith);
          eleven = λ z. (t, et, lt, refl);
          short = λ u eu l. refl;
          enough = λ u eu l. absurd (omega (arith, same_length u eu));
          first = λ n p eb. bad_got (sym eb ∙ et);
          ten = λ z. absurd (omega arith);
          again = answer-again (reject 11 (length (copy t))) e;
          again_bytes = λ u eu out' l z. absurd (omega arith);
        }

  refused_says : (n p : ℕ) → judge Lenient s ≡ reject n p → CSays (reject n p)
  unfolding written output_after
  refused_says n p eb =
      let h = judge-number Lenient s n p eb in
      record {
        most = omega (arith, h.1);
        leaves = leaves-bad n p out h.0;
        zero = λ z. absurd (omega (arith, h.0));
        read_back = λ u eu. bad_got (sym eb ∙ eu);
        eleven = λ z. absurd (omega (arith, h.1));
        short = λ u eu l. bad_got (sym eb ∙ eu);
        enough = λ u eu l. bad_got (sym eb ∙ eu);
        first = λ m q em. let x : n ≡ m = bad-number (sym eb ∙ em) in let y : p ≡ q = bad-place (sym eb ∙ em) in ap₂ (λ (i j : ℕ). record { number = i; place = j; size = 0 }) x y;
        ten = λ z. judge-ten Lenient s p (eb ∙ ap (λ (i : ℕ). reject i p) z);
        again = λ u eu. bad_got (sym eb ∙ eu);
        again_bytes = λ u eu. bad_got (sym eb ∙ eu);
      }
    where
      bad-number : {m q : ℕ} → ◌≡◌ {A = Result Scene} (reject n p) (reject m q) → n ≡ m
      bad-number e = cc

      bad-place : {m q : ℕ} → ◌≡◌ {A = Result Scene} (reject n p) (reject m q) → p ≡ q
      bad-place e = cc

  pub clearer_says : ClearerSays s out (clear_answer s out) (clear_output s out)
  unfolding clear_answer clear_output
  clearer_says = by (judge Lenient s) refl
    where
      by : (o : Result Scene) → judge Lenient s ≡ o → ClearerSays s out (written (clear s (length out))) (output_after (clear s (length out)) out)
      by (accept t) e =
          by_test (leb (length (copy t)) (length out))
          (λ h. let le = leb→le (length (copy t)) (length out) h in subst CSays (sym ((demand_3 s bytes).enough t e (length out) le)) (copy-says t e le))
          (λ h. let lt = nleb→lt (length (copy t)) (length out) h in subst CSays (sym ((demand_3 s bytes).short t e (length out) lt)) (copy-short-says t e lt))
      by (reject n p) e = subst CSays (sym ((demand_3 s bytes).first n p e (length out))) (refused_says n p e)

-- ---- two files

named-many : (k : ℕ) (a b : List (List ℕ)) → named name_off k a ≡ named name_off k b → length a ≡ length b
named-many k a b e = sym (named-length name_off k a) ∙ ap length e ∙ named-length name_off k b

each_same : (f g : ℕ → ℕ) (ks : List ℕ) → All (λ k. f k ≡ g k) ks → map f ks ≡ map g ks
each_same f g [] h = refl
each_same f g (k ∷ ks) h = ap₂ ◌∷◌ h.0 (each_same f g ks h.1)

same_counts : (t u : Scene) → All (λ k. named name_off k (rows k t) ≡ named name_off k (rows k u)) tables → counts t ≡ counts u
unfolding counts
same_counts t u h =
    each_same (λ k. length (rows k t)) (λ k. length (rows k u)) tables
    (all_map (λ k. named name_off k (rows k t) ≡ named name_off k (rows k u)) _ (λ k e. named-many k (rows k t) (rows k u) e) tables h)

pub is-alike : (s v : List ℕ) (a : Alike s v) → IsAlike s v a
is-alike s v a = record {
  row_counts = same_counts a.one a.other a.cells;
  turned = record {
    one = a.other;
    other = a.one;
    one_is = a.other_is;
    other_is = a.one_is;
    version = sym a.version;
    slots = sym a.slots;
    cells = all_map (λ k. named name_off k (rows k a.one) ≡ named name_off k (rows k a.other)) _ (λ k e. sym e) tables a.cells;
  };
  goes_on = λ w b.
      let m = got_inj (sym a.other_is ∙ b.one_is) in
      record {
        one = a.one;
        other = b.other;
        one_is = a.one_is;
        other_is = b.other_is;
        version = a.version ∙ ap (λ (t : Scene). t.version) m ∙ b.version;
        slots = a.slots ∙ ap (λ (t : Scene). t.slots) m ∙ b.slots;
        cells = all-zip (λ k. named name_off k (rows k a.one) ≡ named name_off k (rows k a.other)) (λ k. named name_off k (rows k b.one) ≡ named name_off k (rows k b.other)) _
            (λ k x y. x ∙ ap (λ (t : Scene). named name_off k (rows k t)) m ∙ y) tables a.cells b.cells;
      };
}

-- what is left in the output is the copy
copy-in : (s : List ℕ) → AllBytes s → (out : List ℕ) → (clear_answer s out).number ≡ 0 → (t : Scene) → judge Lenient s ≡ accept t → copy_in s out ≡ copy t
copy-in s b out z t e = let c = ((clearer_says s b out).zero z).1 in c.2 ∙ ap copy (got_inj (sym c.1 ∙ e))

module _ (s v : List ℕ) (bs : AllBytes s) (bv : AllBytes v) (out out' : List ℕ) where
  one_answer : Alike s v → length out ≡ length out' → clear_answer s out ≡ clear_answer v out'
  unfolding clear_answer
  one_answer a l = ap written ((demand_3 s bs).same v bv a (length out) ∙ ap (clear v) l)

  begin-same : Alike s v → (clear_answer s out).number ≡ 0 → (clear_answer v out').number ≡ 0 → copy_in s out ≡ copy_in v out'
  begin-same a z z' = copy-in s bs out z a.one a.one_is ∙ same_copy s v bs bv a ∙ sym (copy-in v bv out' z' a.other a.other_is)

  pub one_copy : Alike s v → length out ≡ length out' → OneCopy s v out out'
  one_copy a l = record {
    answer = one_answer a l;
    bytes = λ z. begin-same a z (ap (λ (w : Written). w.number) (sym (one_answer a l)) ∙ z);
  }

  module _ (t u : Scene) (et : judge Lenient s ≡ accept t) (eu : judge Lenient v ≡ accept u) (le : length (copy t) ≤ length out) (le' : length (copy u) ≤ length out') where
    abbrev zero_one : (clear_answer s out).number ≡ 0
    zero_one = (clearer_says s bs out).enough t et le

    abbrev zero-other : (clear_answer v out').number ≡ 0
    zero-other = (clearer_says v bv out').enough u eu le'

    apart_in : copy_in s out ≡ copy_in v out' → Alike s v
    apart_in e = (demand_3 s bs).apart v bv t u et eu (sym (copy-in s bs out zero_one t et) ∙ e ∙ copy-in v bv out' zero-other u eu)

    same_in : Alike s v → copy_in s out ≡ copy_in v out'
    same_in a = begin-same a zero_one zero-other

  pub tells_apart : TellsApart s v out out'
  tells_apart = record { equal = same_in; alike = apart_in }

-- ---- read, then written

module _ (mode : Mode) (xs : ℕ → List ℕ) (s : List ℕ) (bytes : AllBytes s) (t : Scene) (e : read mode (λ k. length (xs k)) s ≡ accept t) (out : List ℕ) where
  rewrite-zero : length s ≤ length out → (write_answer mode (filled mode xs s) s out).number ≡ 0
  rewrite-zero = (writer_says mode (filled mode xs s) s out).given_room s bytes (filled-has mode xs s bytes t e)

  pub rewritten : Rewritten mode xs s out
  rewritten = record { has = filled-has mode xs s bytes t e; written = rewrite-zero; smaller = ((writer_says mode (filled mode xs s) s out).least s bytes (filled-has mode xs s bytes t e)).0 }
