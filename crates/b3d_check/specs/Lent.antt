-- What the writer is lent, as code has it, and what the check says of it.
use Rattle.std.specs.Prelude.{◌≡◌, ℕ, ◌-◌, Bool, List, [], get_or, eqb}
use Rattle.std.proofs.Math.Option.{none, some}
use Rattle.wire.specs.Test.{if}
use Rattle.b3d_spec.specs.Rebuild.{Lent, assembled, rebuild}
use Rattle.b3d_spec.specs.declared.Mode.{Mode}

-- version, n_texs (`slots`), ten counts and the words t₁ to t₁₀ of ten tables, as one record of lent tables
unfoldable pub lent_of : ℕ → ℕ → List ℕ → List ℕ → List ℕ → List ℕ → List ℕ → List ℕ → List ℕ → List ℕ → List ℕ → List ℕ → List ℕ → Lent
lent_of version slots counts t₁ t₂ t₃ t₄ t₅ t₆ t₇ t₈ t₉ t₁₀ =
    record {
      version = version;
      slots = slots;
      count = λ k. get_or counts (k - 1) 0;
      words = λ k.
          if (eqb k 1) t₁
          (if (eqb k 2) t₂
          (if (eqb k 3) t₃
          (if (eqb k 4) t₄
          (if (eqb k 5) t₅
          (if (eqb k 6) t₆
          (if (eqb k 7) t₇
          (if (eqb k 8) t₈
          (if (eqb k 9) t₉
          (if (eqb k 10) t₁₀ [])))))))));
    }

-- r says whether the lent tables L, with names in ns, are those of a scene that the mode accepts: the one put together from them
abbrev pub Says : Mode → Lent → List ℕ → Bool → Type 0
Says mode L ns r = rebuild mode L ns ≡ if r (some (assembled ns L)) none
