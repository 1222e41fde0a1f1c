-- A law for each way through `judge_texs_chunk`, `judge_brus_chunk` and `judge_root`.
use Rattle.std.specs.Prelude.{Ok, Err, Some, None}
use Rattle.std.specs.Prelude as std
use Rattle.layout.proofs.AnswerLaws.{pair_inj}
use Rattle.layout.specs.declared.Refusal.{Refusal}
use Rattle.b3d_chunk_next_allowed.specs.declared.Enclosed.{Enclosed}
use mathlib.Core.Path.{◌≡◌, refl, ap, sym, subst, ◌∙◌}
use Prim.Native.Nat.{ℕ, ◌≤◌, ◌-◌}
use native.Mathlib.Omega.{arith}
use mathlib.Core.Bool.{true, false}
use mathlib.Core.Option.{none, some}
use mathlib.Core.List.{List, [], ◌∷◌}
use lib.ListN.{length}
use lib.Dec.{T}
use mir.Val.{has_key}
use types.Run.{OneOf, hit}
use denote.Enum.Declared.{tag_of}
use Rattle.wire.specs.Test.{if}
use Rattle.wire.specs.Cursors.{left}
use Rattle.wire.specs.declared.Cursor.{Cursor}
use Rattle.layout.specs.Result.{Result, accept, reject, ◌>>=◌}
use Rattle.b3d_spec.specs.declared.Mode.{Mode}
use Rattle.b3d_spec.specs.declared.Tag.{Tag}
use Rattle.b3d_spec.specs.declared.Tag.TheVariants.{BB3D, TEXS, BRUS, NODE}
use Rattle.b3d_spec.specs.Tags.{is}
use Rattle.b3d_spec.specs.Scene.{Brush, Forest, no_nodes, node}
use Rattle.b3d_spec.specs.Nesting.{nesting, Reached, start, next as next_turn, reached_at}
use Rattle.b3d_spec.specs.Parse.{Inner, read_one, read_textures, read_brushes, read_node, read_root, slots_of}
use Rattle.b3d_spec.specs.contracts.Tag.{the_type}
use Rattle.b3d_spec.proofs.Files.TagCodeLaws.{by-tag}
use Rattle.b3d_chunk_cursor.specs.Chunks.{NextIs}
use Rattle.b3d_chunk_cursor.specs.declared.Next.TheVariants as next
use Rattle.b3d_judge_tally.specs.Tally.{no_tally, texs_of, brus_of, texs_tally, brus_tally, data_tally, forest_tally, inner_tally, plus, Within}
use Rattle.b3d_spec_chunk_places.specs.Places.{Body, rest_in, Among}
use Rattle.b3d_judge_tally.specs.Answers.{JudgedIn, Judges, Onward}
use Rattle.b3d_judge_materials.specs.Answers.{slotted, SlottedIn, SlotsAre}
use Rattle.b3d_judge_tally.specs.declared.Tally.{Tally}
use Rattle.b3d_judge_tally.proofs.TallyLaws.{plus_none, within_more}
use Rattle.b3d_rule_nesting_order.specs.declared.Reached.{Reached as State}
use Rattle.b3d_rule_nesting_order.specs.Turns.{reached_of}
use Rattle.b3d_chunk_next_allowed.specs.Steps.{EnclosedIs}
use Rattle.b3d_chunk_next_allowed.proofs.InsideLaws.{step-next, step-among, step-turn, stop-before, end_next}
use Rattle.b3d_judge_file_chunks.specs.Answers.{tallied, Phases, brushes, Brushes}
use Rattle.b3d_judge_tally.proofs.AnswerLaws.{judged_bad, judged_good, onward-none}
use Rattle.b3d_judge_file_chunks.proofs.OneLaws.{one-done, one_plain, one-read}
use Rattle.b3d_spec_chunk_places.proofs.TagTestLaws.{never, is_none, plain, same_turn, bool_same}
use Rattle.b3d_chunk_next_allowed.proofs.RestLaws.{rest-stop, step-body, among-inside, among-head}

-- a chunk of the file, after q: where it stands, and what lies behind it
module _ (s : List ℕ) (from : Cursor) (g : Among 0 from (length s)) (q : State) (r : std.Result (std.Option Enclosed) Refusal) (x : EnclosedIs s BB3D 0 q from r) where
  module _ (d : Enclosed) (w : r ≡ Ok (Some d)) where
    found : NextIs s from (next.Chunk d.tag d.at d.body d.next)
    found = step-next s BB3D 0 q from r x d w

    pub file-body : Body d.at d.body (length s)
    file-body = step-body s BB3D 0 q from r x 0 g d w

    there : (i : ℕ) → i ≤ d.body.end → i ≤ from.end
    there i le = let f = step-among s BB3D 0 q from r x d w in omega arith

    beyond : (m : Tally) → Within m (d.body.end - d.at) → Onward from d.next m
    beyond m i =
        let f = step-among s BB3D 0 q from r x d w in
        record { from_at = omega arith; room = f.to; same = f.same; within = within_more (d.body.end - d.at) (d.next.at - from.at) i (omega arith) }

  -- what one chunk of tag k, if it comes first, is read as; after it or without it the state z
  module _ {A : Type 0} (k : Tag) (a : A) (one : ℕ → List ℕ → Result A) (z : Reached) where
    first-end : r ≡ (Ok None) → read_one k a one (rest_in s BB3D 0 (reached_of q) from) ≡ accept (record { value = a; rest = rest_in s BB3D 0 z from })
    first-end w = one-done s from next.Done (end_next s BB3D 0 q from r x w) k a one (reached_of q) z refl

    first-stop : (e : Refusal) → r ≡ Err e → read_one k a one (rest_in s BB3D 0 (reached_of q) from) ≡ reject e.number e.place
    unfolding read_one
    first-stop e w = rw (rest-stop s BB3D 0 q from r x e w)

    module _ (f : Enclosed) (w : r ≡ Ok (Some f)) where
      first_plain : (ks : List ℕ) → OneOf ks (tag_of the_type f.tag) → T (plain BB3D (λ u. is u k) (reached_of q) z ks)
          → read_one k a one (rest_in s BB3D 0 (reached_of q) from) ≡ accept (record { value = a; rest = rest_in s BB3D 0 z from })
      first_plain ks o h = one_plain s from (next.Chunk f.tag f.at f.body f.next) (found f w) k a one (reached_of q) z f.tag f.at f.body f.next refl ks o h (reached_of f.reached) (step-turn s BB3D 0 q from r x f w)

  -- ---- a phase that reads one chunk of tag k: its tally is f, before it the state q, after it z
  module _ {A : Type 0} (k : Tag) (a : A) (one : ℕ → List ℕ → Result A) (z : Reached) (f : A → Tally) (fa : f a ≡ no_tally) where
    abbrev Right : std.Result (Tally × Cursor) Refusal → Type 0
    Right y = Phases f (read_one k a one (rest_in s BB3D 0 (reached_of q) from)) (rest_in s BB3D 0 z) from y

    phase_left : (m : Tally) → m ≡ no_tally → read_one k a one (rest_in s BB3D 0 (reached_of q) from) ≡ accept (record { value = a; rest = rest_in s BB3D 0 z from }) → Right (Ok (m, from))
    phase_left m e h = record { is = rw (h, fa, e); within = onward-none from m g.room e }

    phase_end : r ≡ (Ok None) → (m : Tally) → m ≡ no_tally → Right (Ok (m, from))
    phase_end w m e = phase_left m e (first-end k a one z w)

    phase_stop : (e : Refusal) → r ≡ Err e → Right (Err e)
    phase_stop e w = record { is = rw (first-stop k a one z e w); within = stop-before s BB3D 0 q from r x e w }

    module _ (d : Enclosed) (w : r ≡ Ok (Some d)) where
      phase_plain : (ks : List ℕ) → OneOf ks (tag_of the_type d.tag) → T (plain BB3D (λ u. is u k) (reached_of q) z ks) → (m : Tally) → m ≡ no_tally → Right (Ok (m, from))
      phase_plain ks o h m e = phase_left m e (first_plain k a one z d w ks o h)

      module _ (h : read_one k a one (rest_in s BB3D 0 (reached_of q) from) ≡ (one d.at (left d.body s) >>= λ y. accept (record { value = y; rest = rest_in s BB3D 0 z d.next })))
          (j : std.Result Tally Refusal) (hj : Judges f (one d.at (left d.body s)) d.at d.body.end j) where
        phase_bad : (e : Refusal) → j ≡ Err e → Right (Err e)
        phase_bad e y = record {
          is = rw (h, judged_bad f (one d.at (left d.body s)) e (sym hj.is ∙ y));
          within = there d w e.place (subst (JudgedIn d.at d.body.end) y hj.within);
        }

        phase_good : (m : Tally) → j ≡ Ok m → Right (Ok (m, d.next))
        phase_good m y =
            let u = judged_good f (one d.at (left d.body s)) m (sym hj.is ∙ y) in
            record {
              is =
                  (λ i. accept (u.has i, rest_in s BB3D 0 z d.next))
                  ∙ ap (λ (o : Result A). tallied f (o >>= λ y. accept (record { value = y; rest = rest_in s BB3D 0 z d.next }))) (sym u.is) ∙ ap (tallied f) (sym h);
              within = beyond d w m (subst (JudgedIn d.at d.body.end) y hj.within);
            }

-- ---- textures

none_texs : texs_tally [] ≡ no_tally
unfolding texs_tally texs_of
none_texs = refl

module _ (s : List ℕ) (from : Cursor) (g : Among 0 from (length s)) (r : std.Result (std.Option Enclosed) Refusal) (x : EnclosedIs s BB3D 0 (record { turn = 0; spent = false }) from r) where
  abbrev Texs : std.Result (Tally × Cursor) Refusal → Type 0
  Texs y = Phases texs_tally (read_one TEXS [] read_textures (rest_in s BB3D 0 start from)) (rest_in s BB3D 0 (reached_at 1 true)) from y

  pub texs_end : r ≡ (Ok None) → (m : Tally) → m ≡ no_tally → Texs (Ok (m, from))
  texs_end = phase_end s from g (record { turn = 0; spent = false }) r x TEXS [] read_textures (reached_at 1 true) texs_tally none_texs

  pub texs_stop : (e : Refusal) → r ≡ Err e → Texs (Err e)
  texs_stop = phase_stop s from g (record { turn = 0; spent = false }) r x TEXS [] read_textures (reached_at 1 true) texs_tally none_texs

  module _ (f : Enclosed) (w : r ≡ Ok (Some f)) where
    pub texs_plain : (ks : List ℕ) → OneOf ks (tag_of the_type f.tag) → T (plain BB3D (λ u. is u TEXS) start (reached_at 1 true) ks) → (m : Tally) → m ≡ no_tally → Texs (Ok (m, from))
    texs_plain = phase_plain s from g (record { turn = 0; spent = false }) r x TEXS [] read_textures (reached_at 1 true) texs_tally none_texs f w

    module _ (e : f.tag ≡ TEXS) (j : std.Result Tally Refusal) (hj : Judges texs_tally (read_textures f.at (left f.body s)) f.at f.body.end j) where
      texs_read : read_one TEXS [] read_textures (rest_in s BB3D 0 start from) ≡ (read_textures f.at (left f.body s) >>= λ y. accept (record { value = y; rest = rest_in s BB3D 0 (reached_at 1 true) f.next }))
      unfolding next_turn if
      texs_read = one-read s from (next.Chunk f.tag f.at f.body f.next) (found s from g (record { turn = 0; spent = false }) r x f w) TEXS [] read_textures start (reached_at 1 true) f.tag f.at f.body f.next refl e refl tt

      pub texs_bad : (i : Refusal) → j ≡ Err i → Texs (Err i)
      texs_bad = phase_bad s from g (record { turn = 0; spent = false }) r x TEXS [] read_textures (reached_at 1 true) texs_tally none_texs f w texs_read j hj

      pub texs_good : (m : Tally) → j ≡ Ok m → Texs (Ok (m, f.next))
      texs_good = phase_good s from g (record { turn = 0; spent = false }) r x TEXS [] read_textures (reached_at 1 true) texs_tally none_texs f w texs_read j hj

pub texs_follows : T (plain BB3D (λ u. is u TEXS) start (reached_at 1 true) (0 ∷ 2 ∷ 3 ∷ 4 ∷ 5 ∷ 6 ∷ 7 ∷ 8 ∷ 9 ∷ []))
unfolding plain is_none same_turn bool_same next_turn if
texs_follows = tt

-- a tag other than TEXS is one of the nine others
pub texs_rest : (t : Tag) → (t ≡ TEXS → ⊥) → OneOf (0 ∷ 2 ∷ 3 ∷ 4 ∷ 5 ∷ 6 ∷ 7 ∷ 8 ∷ 9 ∷ []) (tag_of the_type t)
texs_rest t =
    let other = λ (n : ℕ) (h : T (has_key (0 ∷ 2 ∷ 3 ∷ 4 ∷ 5 ∷ 6 ∷ 7 ∷ 8 ∷ 9 ∷ []) n)). hit (0 ∷ 2 ∷ 3 ∷ 4 ∷ 5 ∷ 6 ∷ 7 ∷ 8 ∷ 9 ∷ []) n h in
    by-tag
    (λ t. (t ≡ TEXS → ⊥) → OneOf (0 ∷ 2 ∷ 3 ∷ 4 ∷ 5 ∷ 6 ∷ 7 ∷ 8 ∷ 9 ∷ []) (tag_of the_type t))
    ((λ a. other 0 tt), (λ a. absurd (a refl)), (λ a. other 2 tt), (λ a. other 3 tt), (λ a. other 4 tt), (λ a. other 5 tt), (λ a. other 6 tt), (λ a. other 7 tt), (λ a. other 8 tt), (λ a. other 9 tt)) t

pub ruleset texs_laws = (texs_follows, among-inside, among-head, file-body, texs_end, texs_stop, texs_plain, texs_bad, texs_good)

-- ---- the root

none-root : forest_tally no_nodes ≡ no_tally
unfolding forest_tally
none-root = refl

-- one root, and nothing beside it
pub root_judges : (o : Result Inner) (from to : ℕ) (j : std.Result Tally Refusal) → Judges inner_tally o from to j → Judges forest_tally (o >>= λ y. accept (node y.self y.below no_nodes)) from to j
unfolding forest_tally inner_tally
root_judges (reject n p) from to j h = record { is = h.is; within = h.within }
root_judges (accept i) from to j h = record { is = h.is ∙ ap Ok (sym (plus_none (plus (data_tally i.self) (forest_tally i.below)))); within = h.within }

-- after the brushes only the root may stand
root-turn : (y : Reached) (t : Tag) → next_turn (nesting BB3D) (nesting BB3D) (reached_at 2 true) t ≡ some y → t ≡ NODE
unfolding next_turn if
root-turn y t =
    by-tag (λ t. next_turn (nesting BB3D) (nesting BB3D) (reached_at 2 true) t ≡ some y → t ≡ NODE) (never, never, never, (λ h. refl), never, never, never, never, never, never) t

-- a root that is read in any way
module _ (root : ℕ → List ℕ → Result Forest) (s : List ℕ) (from : Cursor) (g : Among 0 from (length s)) (r : std.Result (std.Option Enclosed) Refusal) (x : EnclosedIs s BB3D 0 (record { turn = 2; spent = true }) from r) where
  abbrev pub Root : std.Result (Tally × Cursor) Refusal → Type 0
  Root y = Phases forest_tally (read_one NODE no_nodes root (rest_in s BB3D 0 (reached_at 2 true) from)) (rest_in s BB3D 0 (reached_at 3 true)) from y

  pub root-end : r ≡ (Ok None) → (m : Tally) → m ≡ no_tally → Root (Ok (m, from))
  root-end = phase_end s from g (record { turn = 2; spent = true }) r x NODE no_nodes root (reached_at 3 true) forest_tally none-root

  pub root-stop : (e : Refusal) → r ≡ Err e → Root (Err e)
  root-stop = phase_stop s from g (record { turn = 2; spent = true }) r x NODE no_nodes root (reached_at 3 true) forest_tally none-root

  module _ (f : Enclosed) (w : r ≡ Ok (Some f)) (j : std.Result Tally Refusal) (hj : Judges forest_tally (root f.at (left f.body s)) f.at f.body.end j) where
    root_read : read_one NODE no_nodes root (rest_in s BB3D 0 (reached_at 2 true) from) ≡ (root f.at (left f.body s) >>= λ y. accept (record { value = y; rest = rest_in s BB3D 0 (reached_at 3 true) f.next }))
    unfolding next_turn if
    root_read =
        one-read s from (next.Chunk f.tag f.at f.body f.next) (found s from g (record { turn = 2; spent = true }) r x f w) NODE no_nodes root (reached_at 2 true) (reached_at 3 true) f.tag f.at f.body f.next refl
        (root-turn (reached_of f.reached) f.tag (step-turn s BB3D 0 (record { turn = 2; spent = true }) from r x f w)) refl tt

    pub any-root-bad : (i : Refusal) → j ≡ Err i → Root (Err i)
    any-root-bad = phase_bad s from g (record { turn = 2; spent = true }) r x NODE no_nodes root (reached_at 3 true) forest_tally none-root f w root_read j hj

    pub any-root-good : (m : Tally) → j ≡ Ok m → Root (Ok (m, f.next))
    any-root-good = phase_good s from g (record { turn = 2; spent = true }) r x NODE no_nodes root (reached_at 3 true) forest_tally none-root f w root_read j hj

-- the reader's
module _ (mode : Mode) (s : List ℕ) (from : Cursor) (g : Among 0 from (length s)) (r : std.Result (std.Option Enclosed) Refusal) (x : EnclosedIs s BB3D 0 (record { turn = 2; spent = true }) from r) (count : ℕ)
    (f : Enclosed) (w : r ≡ Ok (Some f)) (j : std.Result Tally Refusal) (hj : Judges inner_tally (read_node mode 16 count none f.at (left f.body s)) f.at f.body.end j) where
  root_is : Judges forest_tally (read_root mode count f.at (left f.body s)) f.at f.body.end j
  unfolding read_root
  root_is = root_judges (read_node mode 16 count none f.at (left f.body s)) f.at f.body.end j hj

  pub root-bad : (i : Refusal) → j ≡ Err i → Root (read_root mode count) s from g r x (Err i)
  root-bad = any-root-bad (read_root mode count) s from g r x f w j root_is

  pub root-good : (m : Tally) → j ≡ Ok m → Root (read_root mode count) s from g r x (Ok (m, f.next))
  root-good = any-root-good (read_root mode count) s from g r x f w j root_is

pub ruleset root_laws = (among-inside, among-head, file-body, root-end, root-stop, root-bad, root-good)

-- ---- brushes

slotted-bad : (o : Result (ℕ × List Brush)) (e : Refusal) → slotted o ≡ Err e → o ≡ reject e.number e.place
slotted-bad (accept v) e h = let z : ◌≡◌ {A = ℕ} 0 1 = cc in absurd (omega arith)
slotted-bad (reject n p) e h = cc

record GaveSlots (o : Result (ℕ × List Brush)) (k : ℕ) (t : Tally) : Type 0 where
  value : ℕ × List Brush
  is : o ≡ accept value
  slots : k ≡ slots_of value.0 value.1
  has : t ≡ brus_tally (slots_of value.0 value.1) value.1

slotted-good : (o : Result (ℕ × List Brush)) (k : ℕ) (t : Tally) → slotted o ≡ Ok (k, t) → GaveSlots o k t
slotted-good (accept v) k t h = let p = pair_inj _ _ _ _ (sym h) in record { value = v; is = refl; slots = p.0; has = p.1 }
slotted-good (reject n p) k t h = let z : ◌≡◌ {A = ℕ} 0 1 = cc in absurd (omega arith)

pub brus_follows : T (plain BB3D (λ u. is u BRUS) (reached_at 1 true) (reached_at 2 true) (0 ∷ 1 ∷ 3 ∷ 4 ∷ 5 ∷ 6 ∷ 7 ∷ 8 ∷ 9 ∷ []))
unfolding plain is_none same_turn bool_same next_turn if
brus_follows = tt

module _ (mode : Mode) (s : List ℕ) (from : Cursor) (g : Among 0 from (length s)) (r : std.Result (std.Option Enclosed) Refusal) (x : EnclosedIs s BB3D 0 (record { turn = 1; spent = true }) from r) (textures : ℕ) where
  abbrev Brus : std.Result (ℕ × Tally × Cursor) Refusal → Type 0
  Brus y = Brushes (read_one BRUS (0, []) (read_brushes mode textures) (rest_in s BB3D 0 (reached_at 1 true) from)) (rest_in s BB3D 0 (reached_at 2 true)) from y

  brus_left : (m : Tally) → m ≡ no_tally → read_one BRUS (0, []) (read_brushes mode textures) (rest_in s BB3D 0 (reached_at 1 true) from) ≡ accept (record { value = (0, []); rest = rest_in s BB3D 0 (reached_at 2 true) from })
      → Brus (Ok (0, m, from))
  unfolding slots_of brus_tally brus_of
  brus_left m e h = record { is = rw (h, e); within = onward-none from m g.room e }

  pub brus_end : r ≡ (Ok None) → (m : Tally) → m ≡ no_tally → Brus (Ok (0, m, from))
  brus_end w m e = brus_left m e (first-end s from g (record { turn = 1; spent = true }) r x BRUS (0, []) (read_brushes mode textures) (reached_at 2 true) w)

  pub brus_stop : (e : Refusal) → r ≡ Err e → Brus (Err e)
  brus_stop e w = record { is = rw (first-stop s from g (record { turn = 1; spent = true }) r x BRUS (0, []) (read_brushes mode textures) (reached_at 2 true) e w); within = stop-before s BB3D 0 (record { turn = 1; spent = true }) from r x e w }

  module _ (f : Enclosed) (w : r ≡ Ok (Some f)) where
    pub brus_plain : (ks : List ℕ) → OneOf ks (tag_of the_type f.tag) → T (plain BB3D (λ u. is u BRUS) (reached_at 1 true) (reached_at 2 true) ks) → (m : Tally) → m ≡ no_tally → Brus (Ok (0, m, from))
    brus_plain ks o h m e = brus_left m e (first_plain s from g (record { turn = 1; spent = true }) r x BRUS (0, []) (read_brushes mode textures) (reached_at 2 true) f w ks o h)

    module _ (e : f.tag ≡ BRUS) (j : std.Result (ℕ × Tally) Refusal) (hj : SlotsAre (read_brushes mode textures f.at (left f.body s)) f.at f.body.end j) where
      brus_read : read_one BRUS (0, []) (read_brushes mode textures) (rest_in s BB3D 0 (reached_at 1 true) from) ≡ (read_brushes mode textures f.at (left f.body s) >>= λ y. accept (record { value = y; rest = rest_in s BB3D 0 (reached_at 2 true) f.next }))
      unfolding next_turn if
      brus_read = one-read s from (next.Chunk f.tag f.at f.body f.next) (found s from g (record { turn = 1; spent = true }) r x f w) BRUS (0, []) (read_brushes mode textures) (reached_at 1 true) (reached_at 2 true) f.tag f.at f.body f.next refl e refl tt

      pub brus_bad : (i : Refusal) → j ≡ Err i → Brus (Err i)
      brus_bad i y = record {
        is = rw (brus_read, slotted-bad (read_brushes mode textures f.at (left f.body s)) i (sym hj.is ∙ y));
        within = there s from g (record { turn = 1; spent = true }) r x f w i.place (subst (SlottedIn f.at f.body.end) y hj.within);
      }

      pub brus_good : (k : ℕ) (m : Tally) → j ≡ Ok (k, m) → Brus (Ok (k, m, f.next))
      brus_good k m y =
          let u = slotted-good (read_brushes mode textures f.at (left f.body s)) k m (sym hj.is ∙ y) in
          record {
            is =
                (λ i. accept (u.slots i, u.has i, rest_in s BB3D 0 (reached_at 2 true) f.next))
                ∙ ap (λ (o : Result (ℕ × List Brush)). brushes (o >>= λ y. accept (record { value = y; rest = rest_in s BB3D 0 (reached_at 2 true) f.next }))) (sym u.is) ∙ ap brushes (sym brus_read);
            within = beyond s from g (record { turn = 1; spent = true }) r x f w m (subst (SlottedIn f.at f.body.end) y hj.within);
          }

-- a tag other than BRUS is one of the nine others
pub brus_rest : (t : Tag) → (t ≡ BRUS → ⊥) → OneOf (0 ∷ 1 ∷ 3 ∷ 4 ∷ 5 ∷ 6 ∷ 7 ∷ 8 ∷ 9 ∷ []) (tag_of the_type t)
brus_rest t =
    let other = λ (n : ℕ) (h : T (has_key (0 ∷ 1 ∷ 3 ∷ 4 ∷ 5 ∷ 6 ∷ 7 ∷ 8 ∷ 9 ∷ []) n)). hit (0 ∷ 1 ∷ 3 ∷ 4 ∷ 5 ∷ 6 ∷ 7 ∷ 8 ∷ 9 ∷ []) n h in
    by-tag
    (λ t. (t ≡ BRUS → ⊥) → OneOf (0 ∷ 1 ∷ 3 ∷ 4 ∷ 5 ∷ 6 ∷ 7 ∷ 8 ∷ 9 ∷ []) (tag_of the_type t))
    ((λ a. other 0 tt), (λ a. other 1 tt), (λ a. absurd (a refl)), (λ a. other 3 tt), (λ a. other 4 tt), (λ a. other 5 tt), (λ a. other 6 tt), (λ a. other 7 tt), (λ a. other 8 tt), (λ a. other 9 tt)) t

pub ruleset brus_laws = (brus_follows, among-inside, among-head, file-body, brus_end, brus_stop, brus_plain, brus_bad, brus_good)
