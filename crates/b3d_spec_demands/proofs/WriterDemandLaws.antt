-- Demand 2 on the writer holds.
use mathlib.Core.Logic.{◌⊎◌, inl, inr}
use mathlib.Core.Path.{◌≡◌, refl, ap, sym, ◌∙◌, subst}
use Prim.Native.Nat.{ℕ, ◌*◌, ◌≤◌, ◌<◌}
use native.Mathlib.Omega.{arith}
use mathlib.Core.Option.{Option, none, some}
use mathlib.Core.List.{List}
use lib.ListN.{length}
use lib.Dec.{T, leb, leb→le, nleb→lt}
use borrow.Author.Tests.{lt-leb, le-leb}
use Rattle.wire.specs.Bytes.{AllBytes}
use Rattle.layout.specs.Result.{accept, reject, check, ◌>>=◌}
use Rattle.layout.proofs.AllLaws.{All, all_map, all-zip}
use Rattle.layout.proofs.ResultLaws.{by_test, bad_got}
use Rattle.layout.proofs.PlaceLaws.{NameIn}
use Rattle.layout.specs.Rows.{most_bytes}
use Rattle.b3d_spec.specs.declared.Mode.{Mode}
use Rattle.b3d_spec.specs.Answers.{shortest, room_for, read, write}
use Rattle.b3d_spec.specs.Encode.{encode}
use Rattle.b3d_spec.specs.Parse.{parse}
use Rattle.b3d_spec.specs.Names.{named, unplaced}
use Rattle.b3d_spec.specs.Rebuild.{Lent, lent_rows, names, rebuild}
use Rattle.b3d_spec.specs.Scene.{Scene}
use Rattle.b3d_spec.specs.Tables.{width, rows, tables}
use Rattle.b3d_spec.proofs.AnswerLaws.{judge_got, judge-yes, read-yes, write_got}
use Rattle.b3d_spec.proofs.Files.FileLaws.{parse-size}
use Rattle.b3d_spec.proofs.Laws.{names_stand}
use Rattle.b3d_spec.proofs.FileTableLaws.{stand, all_in, bare_version, bare_slots}
use Rattle.b3d_spec.proofs.TwoModeLaws.{mode_got, passes-rows}
use Rattle.b3d_spec.proofs.Laws.{back, least, file-bytes}
use Rattle.b3d_spec.proofs.Rows.RebuildLaws.{Holds, rebuild-fine, held_rows}
use Rattle.b3d_spec.proofs.Rows.RenameLaws.{bare_same}
use Rattle.b3d_spec.proofs.Rows.RowListLaws.{cut-length}
use Rattle.b3d_spec.proofs.Rows.RowPartLaws.{Stands}
use Rattle.b3d_spec_demands.specs.Having.{names_of, Has}
use Rattle.b3d_spec_demands.specs.Demands.{Writing}
use Rattle.b3d_spec_demands.proofs.SoundTableLaws.{placed, placed_bare, has-rebuild, same-many}
use Rattle.b3d_spec_demands.proofs.NamePlaceLaws.{some_inj}
use Rattle.b3d_spec_demands.proofs.NameLaws.{same_names}

module _ (mode : Mode) (L : Lent) (ns : List ℕ) where
  -- ---- a scene's tables are had by its file

  module _ (t : Scene) (e : rebuild mode L ns ≡ some t) (le : length (encode t) ≤ most_bytes) where
    pub written_has : Has mode (encode t) L ns
    written_has =
        let f = rebuild-fine mode ns L t e in
        let x = back mode t f.0 (subst T (passes-rows mode (lent_rows L) (λ k. rows k t) (held_rows L t f.0 f.1.held)) f.2) le in
        let u = x.0 in
        let r = held_rows L t f.0 f.1.held in
        let cells = bare_same u t x.2 in
        record {
          scene = u;
          accepted = judge-yes mode (encode t) u x.1
              (all-zip (λ k. named unplaced k (rows k u) ≡ named unplaced k (rows k t)) (Holds L t) _ (λ k a h. omega (arith, same-many k (rows k u) (rows k t) a, h.many, h.few)) tables cells f.1.held);
          lent = all_map (Holds L t) _ (λ k h. h.room) tables f.1.held;
          version = bare_version u t x.2 ∙ sym f.1.version;
          slots = bare_slots u t x.2 ∙ sym f.1.slots;
          cells = all-zip (λ k. named unplaced k (rows k u) ≡ named unplaced k (rows k t)) (λ k. lent_rows L k ≡ rows k t) _ (λ k a b. a ∙ ap (named unplaced k) (sym b)) tables cells r;
          names = all-zip (λ k. names_of (encode t) k (rows k u) ≡ names_of ns k (rows k t)) (λ k. lent_rows L k ≡ rows k t) _ (λ k a b. a ∙ ap (names_of ns k) (sym b)) tables
              (same_names (encode t) ns u t x.2 (all_map (NameIn (encode t)) (Stands (encode t)) (stand (encode t)) (names u) (all_in (encode t) u (names_stand mode (encode t) u x.1))) f.1.named) r;
        }

  -- ---- what the writer answers, by the verdict on the tables

  module _ (t : Scene) (e : rebuild mode L ns ≡ some t) (le : length (encode t) ≤ most_bytes) where
    sound-room : (room : ℕ) → write mode L ns room ≡ room_for room (encode t)
    unfolding write shortest check
    sound-room room = rw (e, le-leb (length (encode t)) most_bytes le)

    sound-enough : (room : ℕ) → length (encode t) ≤ room → write mode L ns room ≡ accept (encode t)
    unfolding room_for check
    sound-enough room h = sound-room room ∙ rw (le-leb (length (encode t)) room h)

    sound-short : (room : ℕ) → room < length (encode t) → write mode L ns room ≡ reject 11 (length (encode t))
    unfolding room_for check
    sound-short room h = sound-room room ∙ rw (lt-leb (length (encode t)) room h)

  -- a file that has the tables: the writer's is one, and no longer
  module _ (s : List ℕ) (b : AllBytes s) (h : Has mode s L ns) where
    abbrev theirs : Scene
    theirs = placed mode s b L ns h

    parsed : parse mode s ≡ accept h.scene
    parsed = (judge_got mode s h.scene h.accepted).0

    no_longer : length (encode theirs) ≤ length s
    no_longer = least mode s theirs h.scene b parsed (sym (placed_bare mode s b L ns h))

    pub has-written : (room : ℕ) → write mode L ns room ≡ room_for room (encode theirs)
    has-written = let a = parse-size s h.scene (mode_got mode s h.scene parsed).0 in let l = no_longer in sound-room theirs (has-rebuild mode s b L ns h) (omega arith)

    has_room : (room : ℕ) → length (encode theirs) ≤ room → write mode L ns room ≡ accept (encode theirs)
    has_room = let a = parse-size s h.scene (mode_got mode s h.scene parsed).0 in let l = no_longer in sound-enough theirs (has-rebuild mode s b L ns h) (omega arith)

    has_short : (room : ℕ) → room < length (encode theirs) → write mode L ns room ≡ reject 11 (length (encode theirs))
    has_short = let a = parse-size s h.scene (mode_got mode s h.scene parsed).0 in let l = no_longer in sound-short theirs (has-rebuild mode s b L ns h) (omega arith)

    not-unsound : (room : ℕ) → write mode L ns room ≡ reject 12 0 → ⊥
    not-unsound room e =
        by_test (leb (length (encode theirs)) room)
        (λ t. bad_got (sym e ∙ has_room room (leb→le (length (encode theirs)) room t)))
        (λ t. let q : reject 11 (length (encode theirs)) ≡ reject 12 0 = sym (has_short room (nleb→lt (length (encode theirs)) room t)) ∙ e in
        let z : ◌≡◌ {A = ℕ} 11 12 = cc in absurd (omega arith))

  -- what is refused other than as unsound has a file
  sound_or_not : (room : ℕ) → (write mode L ns room ≡ reject 12 0) ⊎ ((t : Scene) × (rebuild mode L ns ≡ some t) × (length (encode t) ≤ most_bytes))
  unfolding write shortest check
  sound_or_not room = by (rebuild mode L ns) refl
    where
      by : (o : Option Scene) → rebuild mode L ns ≡ o → ((shortest o >>= room_for room) ≡ reject 12 0) ⊎ ((t : Scene) × (rebuild mode L ns ≡ some t) × (length (encode t) ≤ most_bytes))
      by none e = inl refl
      by (some t) e =
          by_test (leb (length (encode t)) most_bytes) (λ h. inr (t, e, leb→le (length (encode t)) most_bytes h))
          (λ h. inl (rw (lt-leb (length (encode t)) most_bytes (nleb→lt (length (encode t)) most_bytes h))))

  -- unsound, or a file that has them is written where it has room
  pub verdict : (room : ℕ) → (write mode L ns room ≡ reject 12 0) ⊎ ((b : List ℕ) × AllBytes b × Has mode b L ns × ((r : ℕ) → write mode L ns r ≡ room_for r b))
  verdict room = elim (sound_or_not room) [ inl e ↦ inl e | inr x ↦ inr (encode x.0, file-bytes x.0 (rebuild-fine mode ns L x.0 x.1).0, written_has x.0 x.1 x.2, sound-room x.0 x.1 x.2) ]

got_has : (mode : Mode) (L : Lent) (ns : List ℕ) (room : ℕ) (b : List ℕ) → write mode L ns room ≡ accept b → Has mode b L ns
got_has mode L ns room b e = let x = write_got mode L ns room b e in subst (λ (c : List ℕ). Has mode c L ns) x.2 (written_has mode L ns x.0 x.1 (rw x.2 x.3))

-- a file that has the tables is read into tables of the counted rows
pub has-read : (mode : Mode) (s : List ℕ) (L : Lent) (ns : List ℕ) (h : Has mode s L ns) (rooms : ℕ → ℕ) → All (λ k. width k * L.count k ≤ rooms k) tables → read mode rooms s ≡ accept h.scene
unfolding lent_rows
has-read mode s L ns h rooms fits =
    read-yes mode rooms s h.scene h.accepted
    (all-zip (λ k. named unplaced k (rows k h.scene) ≡ named unplaced k (lent_rows L k)) (λ k. width k * L.count k ≤ rooms k) _
    (λ k a r. subst (λ (n : ℕ). width k * n ≤ rooms k) (sym (same-many k (rows k h.scene) (lent_rows L k) a ∙ cut-length (width k) (L.count k) (L.words k))) r) tables h.cells fits)

pub demand_2 : (mode : Mode) (L : Lent) (ns : List ℕ) → Writing mode L ns
demand_2 mode L ns = record {
  unsound = λ room e s b h. not-unsound mode L ns s b h room e;
  no_file = λ no room. elim (sound_or_not mode L ns room) [ inl e ↦ e | inr x ↦ absurd (no (encode x.0) (file-bytes x.0 (rebuild-fine mode ns L x.0 x.1).0) (written_has mode L ns x.0 x.1 x.2)) ];
  reads_back = got_has mode L ns;
  read_back = λ room b e. has-read mode b L ns (got_has mode L ns room b e);
  bytes = λ room b e. let x = write_got mode L ns room b e in subst AllBytes x.2 (file-bytes x.0 (rebuild-fine mode ns L x.0 x.1).0);
  least = λ room b e s c h.
      let x = write_got mode L ns room b e in
      let same : x.0 ≡ placed mode s c L ns h = some_inj (sym x.1 ∙ has-rebuild mode s c L ns h) in
      subst (λ (d : List ℕ). length d ≤ length s) (sym (ap encode same) ∙ x.2) (no_longer mode L ns s c h);
  enough = λ room b e more h. let x = write_got mode L ns room b e in sound-enough mode L ns x.0 x.1 (rw x.2 x.3) more (rw x.2 h) ∙ ap accept x.2;
  short = λ room b e less h. let x = write_got mode L ns room b e in sound-short mode L ns x.0 x.1 (rw x.2 x.3) less (rw x.2 h) ∙ ap (λ (c : List ℕ). reject 11 (length c)) x.2;
  given_room = λ s b h. (encode (placed mode s b L ns h), has_room mode L ns s b h (length s) (no_longer mode L ns s b h));
}
