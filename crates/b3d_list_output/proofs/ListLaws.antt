-- A law for each way through `put_listing`.
use Rattle.std.specs.Prelude.{Ok, Err}
use Rattle.std.specs.Prelude as std
use Rattle.layout.specs.declared.Refusal.{Refusal}
use mathlib.Core.Path.{◌≡◌, ap, ap₂, sym, ◌∙◌}
use Prim.Native.Nat.{ℕ, ◌<◌, ◌≤◌}
use mathlib.Core.List.{List, [], ◌∷◌, ◌++◌, append_assoc}
use lib.ListN.{length}
use Rattle.layout.specs.Result.{Result, accept}
use Rattle.b3d_spec.specs.declared.Mode.TheVariants.{Strict}
use Rattle.b3d_spec.specs.Answers.{judge}
use Rattle.b3d_spec.specs.Scene.{Scene}
use Rattle.b3d_spec.specs.Tables.{counts, tables, node_tables}
use Rattle.b3d_judge.specs.Answers.{verdict_of}
use Rattle.b3d_judge_file_body.specs.declared.Summary.{Summary}
use Rattle.b3d_judge_limits.specs.Rooms.{counts_in}
use Rattle.b3d_judge.proofs.VerdictLaws.{summary_of, Good, was-bad, was-good}
use Rattle.b3d_list_text.specs.Puts.{Puts}
use Rattle.b3d_list_text.specs.Text.{number_line}
use Rattle.b3d_list_text.proofs.PutLaws.{put_both, put_inside}
use Rattle.b3d_list_spec.specs.Listing.{node_lines, listed, listing}
use Rattle.b3d_list_output_parts.specs.Parts.{head_lines, node_lines_of, Listable}
use Rattle.b3d_list_spec.proofs.LengthLaws.{listing-over, listing-short}

-- the text of what the judge has accepted
accepted_lines : (t : Scene) → head_lines (summary_of t) ++ node_lines t.nodes ≡ listed (accept t)
unfolding head_lines listed counts_in counts tables node_tables
accepted_lines t = simp append_assoc

module _ (s xs ys : List ℕ) (p : ℕ) where
  pub listing-long : 65536 < length s → Puts (number_line (1 ∷ 0 ∷ [])) xs 0 ys p → Puts (listing s) xs 0 ys p
  listing-long h k = rw (listing-over s h) k

  module _ (h : length s ≤ 65536) (v : std.Result Summary Refusal) (ev : v ≡ verdict_of (judge Strict s)) where
    pub listing-bad : (n : Refusal) → v ≡ Err n → (k : ℕ) → k ≡ n.number → Puts (number_line (k ∷ n.place ∷ [])) xs 0 ys p → Puts (listing s) xs 0 ys p
    unfolding listed
    listing-bad n w k e g = rw (listing-short s h, was-bad (judge Strict s) n (sym ev ∙ w), ← e) g

    module _ (x : Summary) (w : v ≡ Ok x) where
      good : Good (judge Strict s) x
      good = was-good (judge Strict s) x (sym ev ∙ w)

      listing_lines : head_lines x ++ node_lines_of (judge Strict s) ≡ listing s
      unfolding node_lines_of
      listing_lines =
          ap₂ (λ (y : Summary) (o : Result Scene). head_lines y ++ node_lines_of o) good.same good.is
          ∙ accepted_lines good.scene ∙ sym (listing-short s h ∙ ap listed good.is)

      pub listing-good : Puts (head_lines x) xs 0 ys p → (zs : List ℕ) (q : ℕ) → Puts (node_lines_of (judge Strict s)) ys p zs q → Puts (listing s) xs 0 zs q
      listing-good k zs q l = rw (← listing_lines) (put_both (head_lines x) (node_lines_of (judge Strict s)) xs 0 ys p zs q k l)

pub listing-nodes : (s : List ℕ) → length s ≤ 65536 → (v : std.Result Summary Refusal) → v ≡ verdict_of (judge Strict s) → (x : Summary) → v ≡ Ok x → Listable s x.tally.nodes
listing-nodes s h v ev x w =
    let g = was-good (judge Strict s) x (sym ev ∙ w) in
    record { scene = g.scene; accepted = g.is; count = ap (λ (y : Summary). y.tally.nodes) g.same; short = h }

pub ruleset listing_laws = (listing-long, listing-bad, listing-good, listing-nodes, put_inside)
