-- A law for each way through `write`.
use mathlib.Core.Path.{◌≡◌, ap, ◌∙◌}
use Prim.Native.Nat.{ℕ, ◌<◌, ◌≤◌}
use native.Mathlib.Omega.{arith}
use mathlib.Core.Bool.{Bool, true, false, not}
use mathlib.Core.Option.{none, some}
use mathlib.Core.List.{List}
use lib.ListN.{length, get_or}
use borrow.Author.Tests.{not-true, not-false, lt-leb, le-leb}
use Rattle.wire.specs.Test.{if}
use Rattle.layout.specs.Result.{accept, check}
use Rattle.layout.specs.Rows.{most_bytes}
use Rattle.shared_output.specs.Writing.{Room}
use Rattle.b3d_spec.specs.declared.Counts.{Counts}
use Rattle.b3d_spec.specs.declared.Mode.{Mode}
use Rattle.b3d_spec.specs.Answers.{shortest, room_for, write, written, output_after, write_answer, write_output}
use Rattle.b3d_spec.specs.Encode.{encode}
use Rattle.b3d_spec.specs.Rebuild.{Lent, assembled, rebuild}
use Rattle.b3d_spec.specs.Scene.{Scene}
use Rattle.b3d_check_table_lengths.specs.LentRooms.{part_counts, Rooms}
use Rattle.b3d_check.specs.Lent.{lent_of}
use Rattle.b3d_write_size.specs.LentSize.{NodesSizable, file_bytes}
use Rattle.b3d_write_file.specs.Whole.{Some, Each}
use Rattle.b3d_write_counted.specs.Counted.{OfCounted}
use Rattle.b3d_write.specs.Writes.{Writes}
use Rattle.b3d_write.proofs.SoundLaws.{sound-rooms, sound-slots, sound_sizable, sound-bytes}
use Rattle.b3d_write.proofs.SceneLaws.{is-scene}

module _ (mode : Mode) (v slots : ℕ) (counts t₁ t₂ t₃ t₄ t₅ t₆ t₇ t₈ t₉ t₁₀ ns : List ℕ) (s : Bool) where
  abbrev L : Lent
  L = lent_of v slots counts t₁ t₂ t₃ t₄ t₅ t₆ t₇ t₈ t₉ t₁₀

  module _ (sound : rebuild mode L ns ≡ if s (some (assembled ns L)) none) where
    pub write-unsound : (out : List ℕ) → not s ≡ true → Writes mode L ns out out (record { number = 12; place = 0; size = 0 })
    unfolding write_answer write_output write written output_after shortest if
    write-unsound out f = record { answer = rw (sound, not-true s f); output = rw (sound, not-true s f) }

    module _ (f : not s ≡ false) (all : Counts) (ea : all ≡ part_counts counts) (c₁ c₂ : ℕ) (e₁ : c₁ ≡ get_or counts 0 0) (e₂ : c₂ ≡ get_or counts 1 0) where
      abbrev t : Scene
      t = assembled ns L

      is_some : rebuild mode L ns ≡ some t
      unfolding if
      is_some = sound ∙ rw (not-false s f)

      pub asked-rooms : Rooms c₁ c₂ all (length t₁) (length t₂) (length t₃) (length t₄) (length t₅) (length t₆) (length t₇) (length t₈) (length t₉) (length t₁₀)
      asked-rooms = rw (e₁, e₂, ea) (sound-rooms mode v slots counts t₁ t₂ t₃ t₄ t₅ t₆ t₇ t₈ t₉ t₁₀ ns t is_some)

      pub asked-slots : slots ≤ 8
      asked-slots = sound-slots mode v slots counts t₁ t₂ t₃ t₄ t₅ t₆ t₇ t₈ t₉ t₁₀ ns t is_some

      pub asked_sizable : NodesSizable all t₃ t₄ t₉
      asked_sizable = rw ea (sound_sizable mode v slots counts t₁ t₂ t₃ t₄ t₅ t₆ t₇ t₈ t₉ t₁₀ ns t is_some)

      module _ (size : ℕ) (es : size ≡ file_bytes slots c₁ c₂ all t₁ t₂ t₃ t₄ t₉) (out : List ℕ) where
        bytes : size ≡ length (encode t)
        bytes = es ∙ (λ i. file_bytes slots (e₁ i) (e₂ i) (ea i) t₁ t₂ t₃ t₄ t₉) ∙ sound-bytes mode v slots counts t₁ t₂ t₃ t₄ t₅ t₆ t₇ t₈ t₉ t₁₀ ns t is_some

        pub write-long : most_bytes < size → Writes mode L ns out out (record { number = 12; place = 0; size = 0 })
        unfolding write_answer write_output write written output_after shortest check
        write-long h = let k = lt-leb (length (encode t)) most_bytes (omega (arith, bytes)) in record { answer = rw (is_some, k); output = rw (is_some, k) }

        module _ (h : size ≤ most_bytes) where
          found : shortest (rebuild mode L ns) ≡ accept (encode t)
          unfolding shortest check
          found = rw (is_some, le-leb (length (encode t)) most_bytes (omega (arith, bytes)))

          pub write-short : length out < size → Writes mode L ns out out (record { number = 11; place = size; size = 0 })
          unfolding write_answer write_output write written output_after room_for check
          write-short l =
              let k = lt-leb (length (encode t)) (length out) (omega (arith, bytes)) in
              record { answer = ap (λ (n : ℕ). record { number = 11; place = n; size = 0 }) bytes ∙ rw (found, k); output = rw (found, k) }

          module _ (l : size ≤ length out) where
            abbrev Of : Scene → Type 0
            Of = OfCounted ns v slots c₁ c₂ all t₁ t₂ t₃ t₄ t₅ t₆ t₇ t₈ t₉ t₁₀

            of-scene : Of t
            of-scene = rw (e₁, e₂, ea) (is-scene mode v slots counts t₁ t₂ t₃ t₄ t₅ t₆ t₇ t₈ t₉ t₁₀ ns t is_some)

            file-room : Room (encode t) out
            file-room = record { room = omega (arith, bytes); small = omega (arith, bytes) }

            pub asked-some : Some Of encode out
            asked-some = record { value = t; is = of-scene; room = file-room }

            -- the file is written over the front of the output
            pub write_done : (put : List ℕ) (n : ℕ) → Each Of encode out put n → Writes mode L ns out put (record { number = 0; place = 0; size = size })
            unfolding write_answer write_output write written output_after room_for check
            write_done put n w =
                let k = le-leb (length (encode t)) (length out) (omega (arith, bytes)) in
                record { answer = ap (λ (m : ℕ). record { number = 0; place = 0; size = m }) bytes ∙ rw (found, k); output = (w.bytes t of-scene file-room).wrote.is ∙ rw (found, k) }
