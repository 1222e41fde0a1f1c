-- A law for each way through `sizes_of`, `write_both` and `put_both`.
use mathlib.Core.Path.{◌≡◌, refl, ap, ap₂, sym, ◌∙◌}
use Prim.Native.Nat.{ℕ, ◌+◌, ◌-◌, ◌*◌, ◌<◌, ◌≤◌}
use native.Mathlib.Omega.{arith}
use mathlib.Core.Bool.{Bool, true, false}
use mathlib.Core.List.{List, [], ◌++◌}
use lib.ListN.{length, drop, length-append}
use lib.Dec.{eqb}
use lib.Seq.{sets, sets-eq}
use Rattle.wire.specs.Bytes.{AllBytes, bytes, over}
use Rattle.wire.specs.Test.{if}
use Rattle.layout.specs.Result.{Result, accept, reject}
use Rattle.layout.specs.Rows.{size_fits, most_bytes}
use Rattle.layout.proofs.ResultLaws.{by-check, got_inj}
use Rattle.b3d_spec.specs.Scene.{Scene}
use Rattle.b3d_spec.specs.Tags.{code}
use Rattle.b3d_spec.specs.declared.Tag.TheVariants.{BB3D}
use Rattle.b3d_spec.proofs.Files.FileLaws.{size_low, size_bound}
use Rattle.b3d_mend_spec.specs.Answers.{written_both, file_after, report_after, mend_answer, mend_output, mend_report}
use Rattle.b3d_mend_spec.specs.Edits.{follow, mend, becomes, after, file_length}
use Rattle.b3d_mend_spec.specs.Mend.{Mended, mend_file}
use Rattle.b3d_mend_spec.specs.Mends.{Mends}
use Rattle.b3d_mend_spec.specs.Report.{Mending, mending, room_for_both, mend_into}
use Rattle.b3d_mend_spec.specs.declared.WrittenBoth.{WrittenBoth}
use Rattle.b3d_mend_spec.proofs.Laws.{mends, room-yes}
use Rattle.b3d_mend_write_both.specs.Mendable.{CanMend, HaveRoom, SizesAre}
use Rattle.b3d_mend_write_both.specs.declared.MendedSizes.{MendedSizes}
use Rattle.shared_put_or_count.specs.Emits.{written, RoomFrom, Emits}
use Rattle.b3d_mend_write_spec.specs.Shown.{shown}
use Rattle.b3d_mend_write_both.specs.BothSizes.{OfSizes}
use Rattle.b3d_mend_write_both.proofs.BothAnswerLaws.{fits_both, short-both}
use Rattle.b3d_mend_write_scopes.specs.Shown.{number_of, walk_body, walk_file}
use Rattle.b3d_mend_write_scopes.proofs.FileShowsLaws.{file-walk}

size-within : (s : List ℕ) (x : Mended Scene) → mend_file s ≡ accept x → (12 ≤ length s) × (length s ≤ most_bytes)
unfolding mend_file
size-within s x e = by-check (size_fits (length s)) 1 0 _ e (λ z _. (size_low (length s) z, size_bound (length s) z))

-- ---- how long the mended file is, whatever length it says

length-four : (b : Bool) (said is new : ℕ) → length (becomes (if b (follow is new) (mend 1 (bytes said []) (bytes new [])))) ≡ 4
unfolding if becomes
length-four true said is new = refl
length-four false said is new = refl

file-long : (n : ℕ) (s : List ℕ) → length (walk_file false n s) ≡ 12 + length (walk_body false s)
unfolding walk_file shown after becomes file_length
file-long n s =
    let F = file_length (number_of 1 s) (length (drop 8 s)) (4 + n) in
    let h : length (becomes F) ≡ 4 = length-four (eqb (number_of 1 s) (length (drop 8 s))) (number_of 1 s) (length (drop 8 s)) (4 + n) in
    omega (
      arith,
      h,
      length-append (bytes (code BB3D) [] ++ (becomes F ++ (bytes (number_of 2 s) [] ++ []))) (walk_body false s),
      length-append (bytes (code BB3D) []) (becomes F ++ (bytes (number_of 2 s) [] ++ [])),
      length-append (becomes F) (bytes (number_of 2 s) [] ++ []),
    )

-- bytes at the start of an output
at-start : (w xs : List ℕ) → length w ≤ length xs → sets xs 0 w ≡ over w xs
unfolding over
at-start w xs h = sets-eq w xs 0 (omega arith) ∙ ap (λ (k : ℕ). w ++ drop k xs) (let q : 0 + length w ≡ length w = omega arith in q)

-- ---- the ways

module _ (s out report : List ℕ) where
  pub answered : (o : Result Mending) → mend_into (length out) (length report) s ≡ o → (w : WrittenBoth) → w ≡ written_both o → w ≡ mend_answer s out report
  unfolding mend_answer
  answered o q w h = h ∙ ap written_both (sym q)

  pub file_so : (o : Result Mending) → mend_into (length out) (length report) s ≡ o → (ys : List ℕ) → ys ≡ file_after o out → ys ≡ mend_output s out report
  unfolding mend_output
  file_so o q ys h = h ∙ ap (λ (x : Result Mending). file_after x out) (sym q)

  pub report_so : (o : Result Mending) → mend_into (length out) (length report) s ≡ o → (ys : List ℕ) → ys ≡ report_after o report → ys ≡ mend_report s out report
  unfolding mend_report
  report_so o q ys h = h ∙ ap (λ (x : Result Mending). report_after x report) (sym q)

  -- can be mended
  module _ (can : CanMend s) where
    abbrev x : Mended Scene
    x = can.value

    laws : Mends s
    laws = mends s can.bytes

    abbrev M : Mending
    M = mending x.edits

    within : (12 ≤ length s) × (length s ≤ most_bytes)
    within = size-within s x (laws.few x can.is).0

    pub mend-low : 12 ≤ length s
    mend-low = within.0

    pub mend-high : length s ≤ most_bytes
    mend-high = within.1

    walked : (report : Bool) → walk_file report (length (walk_body false s)) s ≡ shown report 0 x.edits
    walked = file-walk s x can.bytes (laws.few x can.is).0

    file_is : walk_file false (length (walk_body false s)) s ≡ M.file
    unfolding mending shown
    file_is = walked false

    report-is : walk_file true (length (walk_body false s)) s ≡ M.report
    unfolding mending shown
    report-is = walked true

    file-most : length M.file ≤ length s
    unfolding mending
    file-most = laws.shorter x can.is

    report-most : length M.report ≤ 10 * length s
    unfolding mending
    report-most = laws.report-size x can.is

    length-is : (n : ℕ) → length (walk_file false n s) ≡ length M.file
    length-is n = file-long n s ∙ sym (file-long (length (walk_body false s)) s) ∙ ap length file_is

    pub can-bytes : AllBytes s
    can-bytes = can.bytes

    body_of : (n : ℕ) → n ≡ length M.file → n - 12 ≡ length (walk_body false s)
    body_of n e = omega (arith, e, sym (length-is 0), file-long 0 s)

    pub dry_file : RoomFrom false (walk_file false 0 s) 0 out
    dry_file = record { room = omega (arith, length-is 0, file-most, mend-high); small = omega (arith, length-is 0, file-most, mend-high) }

    -- counted
    module _ (out₁ : List ℕ) (n : ℕ) (f : Emits false (walk_file false 0 s) out 0 out₁ n) where
      n_file : n ≡ length M.file
      n_file = omega (arith, f.to, length-is 0)

      pub size-twelve : 12 ≤ n
      size-twelve = omega (arith, f.to, file-long 0 s)

      pub size_small : n - 12 + 4 < 4294967296
      size_small = omega (arith, n_file, file-most, mend-high)

      report-counted : walk_file true (n - 12) s ≡ M.report
      report-counted = ap (λ (k : ℕ). walk_file true k s) (body_of n n_file) ∙ report-is

      pub dry_report : RoomFrom false (walk_file true (n - 12) s) 0 report
      dry_report = record { room = omega (arith, ap length report-counted, report-most, mend-high); small = omega (arith, ap length report-counted, report-most, mend-high) }

      pub file-left : out₁ ≡ out
      unfolding written
      file-left = f.is

      module _ (rep₁ : List ℕ) (m : ℕ) (g : Emits false (walk_file true (n - 12) s) report 0 rep₁ m) where
        m_report : m ≡ length M.report
        m_report = omega (arith, g.to, ap length report-counted)

        pub both-sized : SizesAre s (record { file = n; report = m })
        both-sized = record {
          files = λ y q. n_file ∙ ap (λ (z : Mended Scene). length (mending z.edits).file) (got_inj (sym can.is ∙ q));
          reports = λ y q. m_report ∙ ap (λ (z : Mended Scene). length (mending z.edits).report) (got_inj (sym can.is ∙ q));
        }

        pub report-left : rep₁ ≡ report
        unfolding written
        report-left = g.is

    room-for : mend_into (length out) (length report) s ≡ room_for_both (length out) (length report) M
    room-for = laws.written x can.is (length out) (length report)

    -- of these sizes
    module _ (n : MendedSizes) (c : SizesAre s n) where
      file-size : n.file ≡ length M.file
      file-size = c.files x can.is

      report-size : n.report ≡ length M.report
      report-size = c.reports x can.is

      pub file-small : n.file < 0x100000000
      file-small = omega (arith, file-size, file-most, mend-high)

      pub report-small : n.report < 0x100000000
      report-small = omega (arith, report-size, report-most, mend-high)

      module _ (out₁ rep₁ : List ℕ) (fo : out₁ ≡ out) (fr : rep₁ ≡ report) (w : WrittenBoth) (h : OfSizes n.file n.report (length out₁) (length rep₁) w) where
        of-both : OfSizes (length M.file) (length M.report) (length out) (length report) w
        of-both = record { is = λ y a b. h.is y (a ∙ sym file-size) (b ∙ sym report-size) ∙ ap₂ (λ (i j : List ℕ). written_both (room_for_both (length i) (length j) y)) fo fr }

        pub mend_answered : w ≡ mend_answer s out report
        mend_answered = answered (room_for_both (length out) (length report) M) room-for w (of-both.is M refl refl)

        -- an output is too short
        module _ (d : w.number ≡ 0 → ⊥) where
          pub short-file-kept : out₁ ≡ mend_output s out report
          unfolding file_after
          short-file-kept = let q = short-both (length out) (length report) M w of-both d in file_so (reject 11 q.0) (room-for ∙ q.1) out₁ fo

          pub short-report-kept : rep₁ ≡ mend_report s out report
          unfolding report_after
          short-report-kept = let q = short-both (length out) (length report) M w of-both d in report_so (reject 11 q.0) (room-for ∙ q.1) rep₁ fr

        -- both are long enough
        pub have_room : w.number ≡ 0 → HaveRoom s out₁ rep₁ n.file
        have_room y =
            let f = fits_both (length out) (length report) M w of-both y in
            record { can = can; long = file-size; room = omega (arith, f.0, ap length fo); report_room = omega (arith, f.1, ap length fr) }

  -- what the callee left, from outputs that were as before
  module _ (out₁ rep₁ : List ℕ) (fo : out₁ ≡ out) (fr : rep₁ ≡ report) (ys : List ℕ) where
    pub file-put : ys ≡ mend_output s out₁ rep₁ → ys ≡ mend_output s out report
    file-put e = e ∙ ap₂ (mend_output s) fo fr

    pub report-put : ys ≡ mend_report s out₁ rep₁ → ys ≡ mend_report s out report
    report-put e = e ∙ ap₂ (mend_report s) fo fr

  -- both have room
  module _ (n : ℕ) (h : HaveRoom s out report n) where
    abbrev N : Mending
    N = mending h.can.value.edits

    done : mend_into (length out) (length report) s ≡ accept N
    done = room-for h.can ∙ room-yes (length out) (length report) N h.room h.report_room

    pub put_low : 12 ≤ length s
    put_low = mend-low h.can

    pub put-high : length s ≤ most_bytes
    put-high = mend-high h.can

    pub put-bytes : AllBytes s
    put-bytes = h.can.bytes

    pub put-twelve : 12 ≤ n
    put-twelve = omega (arith, h.long, sym (length-is h.can 0), file-long 0 s)

    pub put_small : n - 12 + 4 < 4294967296
    put_small = omega (arith, h.long, file-most h.can, put-high)

    file-same : walk_file false (n - 12) s ≡ N.file
    file-same = ap (λ (k : ℕ). walk_file false k s) (body_of h.can n h.long) ∙ file_is h.can

    report-same : walk_file true (n - 12) s ≡ N.report
    report-same = ap (λ (k : ℕ). walk_file true k s) (body_of h.can n h.long) ∙ report-is h.can

    pub wet_file : RoomFrom true (walk_file false (n - 12) s) 0 out
    wet_file = record { room = omega (arith, ap length file-same, h.room); small = omega (arith, ap length file-same, file-most h.can, put-high) }

    pub wet_report : RoomFrom true (walk_file true (n - 12) s) 0 report
    wet_report = record { room = omega (arith, ap length report-same, h.report_room); small = omega (arith, ap length report-same, report-most h.can, put-high) }

    pub mend-file : (ys : List ℕ) (k : ℕ) → Emits true (walk_file false (n - 12) s) out 0 ys k → ys ≡ mend_output s out report
    unfolding file_after written
    mend-file ys k p = file_so (accept N) done ys (p.is ∙ ap (sets out 0) file-same ∙ at-start N.file out h.room)

    pub mend-report : (ys : List ℕ) (k : ℕ) → Emits true (walk_file true (n - 12) s) report 0 ys k → ys ≡ mend_report s out report
    unfolding report_after written
    mend-report ys k p = report_so (accept N) done ys (p.is ∙ ap (sets report 0) report-same ∙ at-start N.report report h.report_room)

pub ruleset size_laws = (mend-low, mend-high, can-bytes, dry_file, size-twelve, size_small, dry_report, file-left, both-sized, report-left)

pub ruleset room_laws = (file-small, report-small, mend_answered, short-file-kept, short-report-kept, have_room)

pub ruleset put_laws = (put_low, put-high, put-bytes, put-twelve, put_small, wet_file, wet_report, mend-file, mend-report)
