-- Demand 3 on the clearer holds.
use mathlib.Core.Path.{◌≡◌, refl, ap, ap₂, sym, ◌∙◌, subst}
use Prim.Native.Nat.{ℕ, ◌*◌, ◌≤◌, ◌<◌}
use native.Mathlib.Omega.{arith}
use mathlib.Core.Bool.{Bool, true, false}
use mathlib.Core.List.{List, [], ◌∷◌, map, append-nil}
use lib.ListN.{length, drop}
use lib.Dec.{leb}
use borrow.Author.Tests.{lt-leb, le-leb}
use Rattle.wire.specs.Bytes.{AllBytes}
use Rattle.wire.specs.Test.{if}
use Rattle.layout.specs.Result.{accept, reject, check}
use Rattle.layout.proofs.AllLaws.{All, all_map, all-zip}
use Rattle.layout.proofs.ResultLaws.{got_inj}
use Rattle.b3d_spec.specs.declared.Mode.TheVariants.{Lenient}
use Rattle.b3d_spec.specs.Answers.{judge, read, room_for, write, copy, clear}
use Rattle.b3d_spec.specs.Encode.{encode}
use Rattle.b3d_spec.specs.Names.{rename, cleared, without_places, named, unplaced, unnamed, name_off}
use Rattle.b3d_spec.specs.Rebuild.{Lent, cut, lent_rows, names}
use Rattle.b3d_spec.specs.Rules.{row_limit}
use Rattle.b3d_spec.specs.Scene.{Scene}
use Rattle.layout.specs.Rows.{joined}
use Rattle.b3d_spec.specs.Tables.{width, rows, tables}
use Rattle.b3d_spec.proofs.AnswerLaws.{judge_got, judge-yes, clear_first, read-yes}
use Rattle.b3d_spec.proofs.Files.FileLaws.{parse-size}
use Rattle.b3d_spec.proofs.Files.NameLaws.{Copied, cleared-fits, bare_cleared, copy-short}
use Rattle.b3d_spec.proofs.Files.PlaceLaws.{parse_names}
use Rattle.b3d_spec.proofs.FileTableLaws.{cells-copy, bare_version, bare_slots, stand, all_in}
use Rattle.b3d_spec.proofs.Laws.{copy as copied, fine, file-bytes, file_bare, copy-differs}
use Rattle.b3d_spec.proofs.Rows.RebuildLaws.{rows-wide}
use Rattle.b3d_spec.proofs.Rows.RenameLaws.{bare_rows, cleared-rows, bare_same, cleared-stands}
use Rattle.b3d_spec.proofs.Rows.RowListLaws.{cut-words, words-length}
use Rattle.b3d_spec.proofs.Rows.RowPartLaws.{Wide, Stands}
use Rattle.layout.proofs.PlaceLaws.{NameIn}
use Rattle.b3d_spec_demands.specs.Having.{names_of, Has, emptied}
use Rattle.b3d_spec_demands.specs.Demands.{Alike, Clearing}
use Rattle.b3d_spec_demands.proofs.SoundTableLaws.{named-length, placed, placed_bare}
use Rattle.b3d_spec_demands.proofs.NameLaws.{same_names}
use Rattle.b3d_spec_demands.proofs.WriterDemandLaws.{has-written}

module _ (s : List ℕ) (t : Scene) (e : judge Lenient s ≡ accept t) where
  clear-is : (room : ℕ) → clear s room ≡ room_for room (copy t)
  unfolding clear
  clear-is room = rw e

  clear-enough : (room : ℕ) → length (copy t) ≤ room → clear s room ≡ accept (copy t)
  unfolding room_for check
  clear-enough room h = clear-is room ∙ rw (le-leb (length (copy t)) room h)

  clear-short : (room : ℕ) → room < length (copy t) → clear s room ≡ reject 11 (length (copy t))
  unfolding room_for check
  clear-short room h = clear-is room ∙ rw (lt-leb (length (copy t)) room h)

  -- the copy, read
  module _ (b : AllBytes s) where
    copy_read : Copied t
    copy_read = copied s t b (judge_got Lenient s t e).0

    copy-cells : All (λ k. named unplaced k (rows k copy_read.scene) ≡ named unnamed k (rows k t)) tables
    copy-cells =
        all-zip (λ k. rows k (without_places copy_read.scene) ≡ named unplaced k (rows k copy_read.scene)) (λ k. rows k (cleared t) ≡ named unnamed k (rows k t)) _
        (λ k x y. sym x ∙ ap (rows k) copy_read.is_cleared ∙ y) tables (bare_rows copy_read.scene) (cleared-rows t)

    copy-many : All (λ k. length (rows k copy_read.scene) ≡ length (rows k t)) tables
    copy-many =
        all_map (λ k. named unplaced k (rows k copy_read.scene) ≡ named unnamed k (rows k t)) _
        (λ k a. sym (named-length unplaced k (rows k copy_read.scene)) ∙ ap length a ∙ named-length unnamed k (rows k t)) tables copy-cells

    copy-accepted : judge Lenient (copy t) ≡ accept copy_read.scene
    unfolding copy
    copy-accepted =
        judge-yes Lenient (encode (cleared t)) copy_read.scene copy_read.accepted
        (all-zip (λ k. length (rows k copy_read.scene) ≡ length (rows k t)) (λ k. length (rows k t) ≤ row_limit) _ (λ k a few. omega (arith, a, few)) tables copy-many (judge_got Lenient s t e).1)

    copy-fits : (rooms : ℕ → ℕ) → All (λ k. width k * length (rows k t) ≤ rooms k) tables → read Lenient rooms (copy t) ≡ accept copy_read.scene
    copy-fits rooms fits =
        read-yes Lenient rooms (copy t) copy_read.scene copy-accepted
        (all-zip (λ k. length (rows k copy_read.scene) ≡ length (rows k t)) (λ k. width k * length (rows k t) ≤ rooms k) _ (λ k a r. subst (λ (n : ℕ). width k * n ≤ rooms k) (sym a) r) tables copy-many fits)

    -- the scene read from the copy is that of the file but for names
    copy_bare : without_places copy_read.scene ≡ without_places (cleared t)
    copy_bare = copy_read.is_cleared ∙ sym (bare_cleared t)

    copy-version : copy_read.scene.version ≡ t.version
    unfolding cleared rename
    copy-version = bare_version copy_read.scene (cleared t) copy_bare

    copy-slots : copy_read.scene.slots ≡ t.slots
    unfolding cleared rename
    copy-slots = bare_slots copy_read.scene (cleared t) copy_bare

    copy-bytes : AllBytes (copy t)
    unfolding copy
    copy-bytes = file-bytes (cleared t) (cleared-fits t (fine Lenient s t b (judge_got Lenient s t e).0).0)

    copy-again : copy copy_read.scene ≡ copy t
    unfolding copy
    copy-again = copy_read.again

    -- what the writer makes of tables that the copy has
    module _ (L : Lent) (ns : List ℕ) (h : Has Lenient (copy t) L ns) where
      same-scene : h.scene ≡ copy_read.scene
      same-scene = got_inj (sym h.accepted ∙ copy-accepted)

      written-copy : encode (placed Lenient (copy t) copy-bytes L ns h) ≡ copy t
      unfolding copy
      written-copy =
          let u = placed Lenient (copy t) copy-bytes L ns h in
          sym (file_bare u) ∙ ap encode (placed_bare Lenient (copy t) copy-bytes L ns h ∙ ap without_places same-scene ∙ copy_read.is_cleared)

      copy_written : (room : ℕ) → write Lenient L ns room ≡ clear s room
      copy_written room = has-written Lenient L ns (copy t) copy-bytes h room ∙ ap (room_for room) written-copy ∙ sym (clear-is room)

    -- the file's tables with each name empty: the copy has them
    emptied-rows : All (λ k. lent_rows (emptied t) k ≡ rows k (cleared t)) tables
    unfolding lent_rows emptied
    emptied-rows =
        all-zip (λ k. All (Wide (width k)) (rows k (cleared t))) (λ k. rows k (cleared t) ≡ named unnamed k (rows k t)) _
        (λ k w c. ap₂ (λ (n : ℕ) (l : List (List ℕ)). cut (width k) n (joined l)) (sym (named-length unnamed k (rows k t)) ∙ ap length (sym c)) (sym c)
        ∙ ap (cut (width k) (length (rows k (cleared t)))) (sym (append-nil (joined (rows k (cleared t))))) ∙ cut-words (width k) (rows k (cleared t)) [] w) tables
        (rows-wide (cleared t) (cleared-fits t (fine Lenient s t b (judge_got Lenient s t e).0).0)) (cleared-rows t)

    emptied-lent : All (λ k. width k * (emptied t).count k ≤ length ((emptied t).words k)) tables
    unfolding emptied
    emptied-lent =
        all-zip (λ k. All (Wide (width k)) (rows k (cleared t))) (λ k. rows k (cleared t) ≡ named unnamed k (rows k t)) _
        (λ k w c. let l = words-length (width k) (rows k (cleared t)) w in
        let n : length (rows k (cleared t)) ≡ length (rows k t) = ap length c ∙ named-length unnamed k (rows k t) in
        let z : length (joined (named unnamed k (rows k t))) ≡ width k * length (rows k t) = ap (λ (x : List (List ℕ)). length (joined x)) (sym c) ∙ l ∙ ap (λ (i : ℕ). width k * i) n in
        omega arith) tables
        (rows-wide (cleared t) (cleared-fits t (fine Lenient s t b (judge_got Lenient s t e).0).0)) (cleared-rows t)

    own-version : t.version ≡ (emptied t).version
    unfolding emptied
    own-version = refl

    own-slots : t.slots ≡ (emptied t).slots
    unfolding emptied
    own-slots = refl

    emptied_has : (ns : List ℕ) → Has Lenient (copy t) (emptied t) ns
    emptied_has ns =
        let u = copy_read.scene in
        let stands = all_map (NameIn (copy t)) (Stands (copy t)) (stand (copy t)) (names u) (all_in (copy t) u (parse_names (copy t) u (judge_got Lenient (copy t) u copy-accepted).0)) in
        record {
          scene = u;
          accepted = copy-accepted;
          lent = emptied-lent;
          version = copy-version ∙ own-version;
          slots = copy-slots ∙ own-slots;
          cells = all-zip (λ k. named unplaced k (rows k u) ≡ named unplaced k (rows k (cleared t))) (λ k. lent_rows (emptied t) k ≡ rows k (cleared t)) _
              (λ k x y. x ∙ ap (named unplaced k) (sym y)) tables (bare_same u (cleared t) copy_bare) emptied-rows;
          names = all-zip (λ k. names_of (copy t) k (rows k u) ≡ names_of ns k (rows k (cleared t))) (λ k. lent_rows (emptied t) k ≡ rows k (cleared t)) _
              (λ k x y. x ∙ ap (names_of ns k) (sym y)) tables (same_names (copy t) ns u (cleared t) copy_bare stands (cleared-stands ns t)) emptied-rows;
        }

-- files alike have one copy
pub same_copy : (s v : List ℕ) → AllBytes s → AllBytes v → (a : Alike s v) → copy a.one ≡ copy a.other
unfolding copy
same_copy s v b c a = cells-copy s v a.one a.other b c (judge_got Lenient s a.one a.one_is).0 (judge_got Lenient v a.other a.other_is).0 a.version a.slots a.cells

-- ---- what two accepted files have that are the same without names

off-unnamed : (k : ℕ) (a b : List (List ℕ)) → named unnamed k a ≡ named unnamed k b → named name_off k a ≡ named name_off k b
unfolding named name_off unnamed if
off-unnamed k a b e = go (leb k 3) e
  where
    again : (l : List (List ℕ)) → map (λ (r : List ℕ). drop 2 r) (map (λ (r : List ℕ). 0 ∷ 0 ∷ drop 2 r) l) ≡ map (λ (r : List ℕ). drop 2 r) l
    again [] = refl
    again (x ∷ l) = ap (λ (z : List (List ℕ)). drop 2 x ∷ z) (again l)

    go : (c : Bool) → if c (map (λ (r : List ℕ). 0 ∷ 0 ∷ drop 2 r) a) a ≡ if c (map (λ (r : List ℕ). 0 ∷ 0 ∷ drop 2 r) b) b → if c (map (λ (r : List ℕ). drop 2 r) a) a ≡ if c (map (λ (r : List ℕ). drop 2 r) b) b
    go true h = sym (again a) ∙ ap (map (λ (r : List ℕ). drop 2 r)) h ∙ again b
    go false h = h

the_version : (t u : Scene) → cleared t ≡ cleared u → t.version ≡ u.version
unfolding cleared rename
the_version t u e = ap (λ (x : Scene). x.version) e

the_slots : (t u : Scene) → cleared t ≡ cleared u → t.slots ≡ u.slots
unfolding cleared rename
the_slots t u e = ap (λ (x : Scene). x.slots) e

module _ (s v : List ℕ) (t u : Scene) (et : judge Lenient s ≡ accept t) (eu : judge Lenient v ≡ accept u) where
  pub cleared-alike : cleared t ≡ cleared u → Alike s v
  cleared-alike e = record {
    one = t;
    other = u;
    one_is = et;
    other_is = eu;
    version = the_version t u e;
    slots = the_slots t u e;
    cells = all-zip (λ k. rows k (cleared t) ≡ named unnamed k (rows k t)) (λ k. rows k (cleared u) ≡ named unnamed k (rows k u)) _
        (λ k a b. off-unnamed k (rows k t) (rows k u) (sym a ∙ ap (rows k) e ∙ b)) tables (cleared-rows t) (cleared-rows u);
  }

copies_alike : (s v : List ℕ) (t u : Scene) → judge Lenient s ≡ accept t → judge Lenient v ≡ accept u → AllBytes s → AllBytes v → copy t ≡ copy u → Alike s v
unfolding copy
copies_alike s v t u et eu bs bv e =
    let ps = (judge_got Lenient s t et).0 in
    let pv = (judge_got Lenient v u eu).0 in
    let n = parse-size s t ps in
    let m = copy-short s t bs ps in
    cleared-alike s v t u et eu (copy-differs t u (fine Lenient s t bs ps).0 (fine Lenient v u bv pv).0 (omega arith) e)

pub demand_3 : (s : List ℕ) → AllBytes s → Clearing s
demand_3 s b = record {
  same = λ v c a room. clear-is s a.one a.one_is room ∙ ap (room_for room) (same_copy s v b c a) ∙ sym (clear-is v a.other a.other_is room);
  apart = λ v c t u et eu e. copies_alike s v t u et eu b c e;
  enough = clear-enough s;
  short = clear-short s;
  as_written = λ t e L ns h room. copy_written s t e b L ns h room;
  emptied_has = λ t e ns. emptied_has s t e b ns;
  emptied_written = λ t e ns room. copy_written s t e b (emptied t) ns (emptied_has s t e b ns) room;
  first = λ n p e room. clear_first s n p e room;
  scene = λ t e. (copy_read s t e b).scene;
  accepted = λ t e. copy-accepted s t e b;
  version = λ t e. copy-version s t e b;
  slots = λ t e. copy-slots s t e b;
  cells = λ t e. copy-cells s t e b;
  read_back = λ t e. copy-fits s t e b;
  bytes = λ t e. copy-bytes s t e b;
  again = λ t e room. clear-is (copy t) (copy_read s t e b).scene (copy-accepted s t e b) room ∙ ap (room_for room) (copy-again s t e b) ∙ sym (clear-is s t e room);
}
