-- The laws of mended words, rows and items. Their given bytes are those that were read, their mended bytes are those of values that keep
-- the rules, and nothing grows.
use mathlib.Core.Path.{◌≡◌, refl, ap, ap₂, sym, ◌∙◌, subst}
use mathlib.Core.Logic.{◌⊎◌, inl, inr}
use Prim.Native.Nat.{ℕ, zero, suc, ◌+◌}
use native.Mathlib.Omega.{arith}
use mathlib.Core.Bool.{Bool, true, false}
use mathlib.Core.List.{List, [], ◌∷◌, ◌++◌, append_assoc, append-nil}
use lib.ListN.{length}
use lib.Dec.{T, lit<}
use mir.Facts.{and_yes}
use Rattle.wire.specs.Bytes.{bytes, IsWord, AllBytes}
use Rattle.wire.proofs.WordLaws.{word_fits}
use Rattle.layout.specs.Result.{Result, accept}
use Rattle.layout.specs.Parts.{Name, Step, text, words, items_in, items}
use Rattle.layout.specs.Rules.{Rule, any, up_to, exactly, names, names_or_none, unit, NONE, holds}
use Rattle.layout.specs.Write.{write_words, write_text, write_items}
use Rattle.layout.proofs.WellFormedLaws.{Fits, FitText}
use Rattle.layout.proofs.AllLaws.{All, all_append}
use Rattle.layout.proofs.ResultLaws.{by_got, by-if, bad_got, got_inj}
use Rattle.layout.proofs.PartLaws.{length-words, words_append}
use Rattle.b3d_mend_spec.specs.Edits.{keep, was, becomes, before, after, id_set}
use Rattle.b3d_mend_spec.specs.Mend.{Mended, may_be_none, mend_word, and_words, mend_words, mend_row, with_name, mend_named, all_hold, stays, mend_item, gathered, mend_items}
use Rattle.b3d_mend_spec.proofs.EditLaws.{before-append, after-append, Small, keep-small, id-small, item-small}
use Rattle.b3d_mend_spec.proofs.ExactLaws.{words_exact, text_exact, text-append}

-- ---- words that were read

pub record Read (n : ℕ) (s : List ℕ) (x : Step (List ℕ)) : Type 0 where
  pub all : All IsWord x.value
  pub count : length x.value ≡ n
  pub bytes : AllBytes x.left

pub words-read : (start n p : ℕ) (s : List ℕ) (x : Step (List ℕ)) → AllBytes s → words start n p s ≡ accept x → Read n s x
unfolding words
words-read start zero p s x h e = subst (Read zero s) (got_inj e) (record { all = tt; count = refl; bytes = h })
words-read start (suc n) p [] x h e = bad_got e
words-read start (suc n) p (a ∷ []) x h e = bad_got e
words-read start (suc n) p (a ∷ b ∷ []) x h e = bad_got e
words-read start (suc n) p (a ∷ b ∷ c ∷ []) x h e = bad_got e
words-read start (suc n) p (a ∷ b ∷ c ∷ d ∷ s) x h e =
    by_got (words start n (p + 4) s) _ e (λ y ey e₁. let z = words-read start n (p + 4) s y h.1.1.1.1 ey in
    subst (Read (suc n) (a ∷ b ∷ c ∷ d ∷ s)) (got_inj e₁)
    (record { all = (word_fits a b c d h.0 h.1.0 h.1.1.0 h.1.1.1.0, z.all); count = ap suc z.count; bytes = z.bytes }))

pub record TextRead (x : Step (List ℕ)) : Type 0 where
  pub fits : FitText x.value
  pub bytes : AllBytes x.left

pub text-read : (start p : ℕ) (s : List ℕ) (x : Step (List ℕ)) → AllBytes s → text start p s ≡ accept x → TextRead x
unfolding text
text-read start p [] x h e = bad_got e
text-read start p (zero ∷ s) x h e = subst TextRead (got_inj e) (record { fits = tt; bytes = h.1 })
text-read start p (suc c ∷ s) x h e =
    by_got (text start (p + 1) s) _ e (λ y ey e₁. let z = text-read start (p + 1) s y h.1 ey in
    subst TextRead (got_inj e₁) (record { fits = ((omega arith, h.0), z.fits); bytes = z.bytes }))

-- ---- mended words

-- a value that is written so, of given bytes
pub record Good {A : Type 0} (Ok : A → Type 0) (write : A → List ℕ) (b : List ℕ) (m : Mended A) : Type 0 where
  pub ok : Ok m.value
  pub given : before m.edits ≡ b
  pub mended : after m.edits ≡ write m.value
  pub small : All Small m.edits

none-fits : (r : Rule) → T (may_be_none r) → T (holds r NONE)
none-fits any h = tt
none-fits (up_to m) h = absurd h
none-fits (exactly m) h = absurd h
none-fits (names n) h = absurd h
none-fits (names_or_none n) h = tt
none-fits unit h = absurd h

abbrev FitWord : Rule → ℕ → Type 0
FitWord r w = IsWord w × T (holds r w)

kept_word : (r : Rule) (w : ℕ) → IsWord w → T (holds r w) → Good (FitWord r) (λ v. bytes v []) (bytes w []) (record { value = w; edits = keep (bytes w []) ∷ [] })
unfolding before after was becomes
kept_word r w h t = record { ok = (h, t); given = refl; mended = refl; small = (keep-small _, tt) }

set_word : (r : Rule) (w : ℕ) → T (may_be_none r) → Good (FitWord r) (λ v. bytes v []) (bytes w []) (record { value = NONE; edits = id_set w NONE ∷ [] })
unfolding before after was becomes
set_word r w t = record { ok = (lit< tt, none-fits r t); given = refl; mended = refl; small = (id-small w, tt) }

word_good : (r : Rule) (p w : ℕ) (v : Mended ℕ) → IsWord w → mend_word r p w ≡ accept v → Good (FitWord r) (λ v. bytes v []) (bytes w []) v
unfolding mend_word
word_good r p w v h e =
    by-if (holds r w) _ _ e
    (λ t e₁. subst (Good (FitWord r) (λ v. bytes v []) (bytes w [])) (got_inj e₁) (kept_word r w h t))
    (λ t e₁. by-if (may_be_none r) _ _ e₁
    (λ u e₂. subst (Good (FitWord r) (λ v. bytes v []) (bytes w [])) (got_inj e₂) (set_word r w u))
    (λ u e₂. bad_got e₂))

and_good : (r : Rule) (rs : List Rule) (w : ℕ) (ws : List ℕ) (v : Mended ℕ) (x : Mended (List ℕ)) → Good (FitWord r) (λ v. bytes v []) (bytes w []) v → Good (Fits rs) (λ vs. write_words vs []) (write_words ws []) x
    → Good (Fits (r ∷ rs)) (λ vs. write_words vs []) (write_words (w ∷ ws) []) (and_words v x)
unfolding and_words
and_good r rs w ws v x g h = record {
  ok = (g.ok.0, g.ok.1, h.ok);
  given = before-append v.edits x.edits ∙ ap₂ ◌++◌ g.given h.given;
  mended = after-append v.edits x.edits ∙ ap₂ ◌++◌ g.mended h.mended;
  small = all_append Small v.edits x.edits g.small h.small;
}

pub words-good : (rs : List Rule) (p : ℕ) (ws : List ℕ) (v : Mended (List ℕ)) → All IsWord ws → length ws ≡ length rs → mend_words rs p ws ≡ accept v
    → Good (Fits rs) (λ vs. write_words vs []) (write_words ws []) v
unfolding mend_words before after
words-good [] p [] v h n e = subst (Good (Fits []) (λ vs. write_words vs []) []) (got_inj e) (record { ok = tt; given = refl; mended = refl; small = tt })
words-good [] p (w ∷ ws) v h n e = absurd (omega arith)
words-good (r ∷ rs) p [] v h n e = absurd (omega arith)
words-good (r ∷ rs) p (w ∷ ws) v h n e =
    by_got (mend_word r p w) _ e (λ y ey e₁.
    by_got (mend_words rs (p + 4) ws) _ e₁ (λ x ex e₂.
    subst (Good (Fits (r ∷ rs)) (λ vs. write_words vs []) (write_words (w ∷ ws) [])) (got_inj e₂)
    (and_good r rs w ws y x (word_good r p w y h.0 ey) (words-good rs (p + 4) ws x h.1 (omega arith) ex))))

-- ---- a part, and what is left after it

pub record GoodStep {A : Type 0} (Ok : A → Type 0) (write : A → List ℕ) (s : List ℕ) (x : Step (Mended A)) : Type 0 where
  pub ok : Ok x.value.value
  pub given : before x.value.edits ++ x.left ≡ s
  pub mended : after x.value.edits ≡ write x.value.value
  pub small : All Small x.value.edits
  pub bytes : AllBytes x.left

pub row-good : (rs : List Rule) (p : ℕ) (s : List ℕ) (x : Step (Mended (List ℕ))) → AllBytes s → mend_row rs p s ≡ accept x → GoodStep (Fits rs) (λ ws. write_words ws []) s x
unfolding mend_row
row-good rs p s x h e =
    by_got (words p (length rs) p s) _ e (λ y ey e₁.
    by_got (mend_words rs p y.value) _ e₁ (λ v ev e₂.
    let r = words-read p (length rs) p s y h ey in
    let g = words-good rs p y.value v r.all r.count ev in
    subst (GoodStep (Fits rs) (λ ws. write_words ws []) s) (got_inj e₂)
    (record {
      ok = g.ok;
      given = ap (λ (l : List ℕ). l ++ y.left) g.given ∙ sym (words_append y.value y.left) ∙ words_exact p (length rs) p s y h ey;
      mended = g.mended;
      small = g.small;
      bytes = r.bytes;
    })))

abbrev pub write_named : Name × List ℕ → List ℕ
write_named x = write_text x.0.bytes (write_words x.1 [])

abbrev pub FitNamed : List Rule → Name × List ℕ → Type 0
FitNamed rs x = FitText x.0.bytes × Fits rs x.1

pub named-good : (rs : List Rule) (p : ℕ) (s : List ℕ) (x : Step (Mended (Name × List ℕ))) → AllBytes s → mend_named rs p s ≡ accept x → GoodStep (FitNamed rs) write_named s x
unfolding mend_named with_name before after was becomes
named-good rs p s x h e =
    by_got (text p p s) _ e (λ n en e₁.
    by_got (words p (length rs) n.place n.left) _ e₁ (λ y ey e₂.
    by_got (mend_words rs n.place y.value) _ e₂ (λ v ev e₃.
    let t = text-read p p s n h en in
    let r = words-read p (length rs) n.place n.left y t.bytes ey in
    let g = words-good rs n.place y.value v r.all r.count ev in
    let w : before v.edits ++ y.left ≡ n.left = ap (λ (l : List ℕ). l ++ y.left) g.given ∙ sym (words_append y.value y.left) ∙ words_exact p (length rs) n.place n.left y t.bytes ey in
    subst (GoodStep (FitNamed rs) write_named s) (got_inj e₃)
    (record {
      ok = (t.fits, g.ok);
      given = append_assoc (write_text n.value []) (before v.edits) y.left ∙ ap (λ (l : List ℕ). write_text n.value [] ++ l) w ∙ sym (text-append n.value n.left) ∙ text_exact p p s n en;
      mended = ap (λ (l : List ℕ). write_text n.value [] ++ l) g.mended ∙ sym (text-append n.value (write_words v.value []));
      small = (keep-small _, g.small);
      bytes = r.bytes;
    }))))

-- ---- items

hold_fits : (rs : List Rule) (ws : List ℕ) → All IsWord ws → length ws ≡ length rs → T (all_hold rs ws) → Fits rs ws
unfolding all_hold
hold_fits [] [] h n t = tt
hold_fits [] (w ∷ ws) h n t = absurd (omega arith)
hold_fits (r ∷ rs) [] h n t = absurd (omega arith)
hold_fits (r ∷ rs) (w ∷ ws) h n t = let (a, b) = and_yes (holds r w) (all_hold rs ws) t in (h.0, a, hold_fits rs ws h.1 (omega arith) b)

abbrev pub FitAll : List Rule → List (List ℕ) → Type 0
FitAll rs l = All (Fits rs) l

-- the words of a triangle or of a weight
abbrev pub ItemRow : List Rule → Type 0
ItemRow rs = (length rs ≡ 3) ⊎ (length rs ≡ 2)

item-bytes : (n : ℕ) (ws : List ℕ) → length ws ≡ n → (n ≡ 3) ⊎ (n ≡ 2) → (length (write_words ws []) ≡ 12) ⊎ (length (write_words ws []) ≡ 8)
item-bytes n ws e h = let k = length-words ws [] in elim h [ inl i ↦ inl (omega arith) | inr j ↦ inr (omega arith) ]

stays-good : (rs : List Rule) (ws : List ℕ) (b : Bool) → ItemRow rs → length ws ≡ length rs → (T b → Fits rs ws) → Good (FitAll rs) (λ l. write_items write_words l) (write_words ws []) (stays b ws)
unfolding stays before after was becomes
stays-good rs ws true i n f = record { ok = (f tt, tt); given = append-nil _; mended = append-nil _; small = (keep-small _, tt) }
stays-good rs ws false i n f = record { ok = tt; given = append-nil _; mended = refl; small = (item-small (write_words ws []) (item-bytes (length rs) ws n i), tt) }

pub item-good : (rs : List Rule) → ItemRow rs → (p : ℕ) (s : List ℕ) (x : Step (Mended (List (List ℕ)))) → AllBytes s → mend_item rs p s ≡ accept x → GoodStep (FitAll rs) (λ l. write_items write_words l) s x
unfolding mend_item
item-good rs i p s x h e =
    by_got (words p (length rs) p s) _ e (λ y ey e₁.
    let r = words-read p (length rs) p s y h ey in
    let g = stays-good rs y.value (all_hold rs y.value) i r.count (hold_fits rs y.value r.all r.count) in
    subst (GoodStep (FitAll rs) (λ l. write_items write_words l) s) (got_inj e₁)
    (record {
      ok = g.ok;
      given = ap (λ (l : List ℕ). l ++ y.left) g.given ∙ sym (words_append y.value y.left) ∙ words_exact p (length rs) p s y h ey;
      mended = g.mended;
      small = g.small;
      bytes = r.bytes;
    }))

module _ {A : Type 0} (Ok : A → Type 0) (write : A → List ℕ → List ℕ) (joins : (a : A) (r : List ℕ) → write a r ≡ write a [] ++ r) where
  items-append : (l m : List A) → write_items write (l ++ m) ≡ write_items write l ++ write_items write m
  items-append [] m = refl
  items-append (a ∷ l) m =
      ap (write a) (items-append l m) ∙ joins a (write_items write l ++ write_items write m) ∙ sym (append_assoc (write a []) (write_items write l) (write_items write m))
      ∙ ap (λ (r : List ℕ). r ++ write_items write m) (sym (joins a (write_items write l)))

  module _ (item : ℕ → List ℕ → Result (Step (Mended (List A)))) (good : (p : ℕ) (s : List ℕ) (x : Step (Mended (List A))) → AllBytes s → item p s ≡ accept x → GoodStep (All Ok) (write_items write) s x) where
    in_good : (f p : ℕ) (s : List ℕ) (l : List (Mended (List A))) → AllBytes s → items_in f item p s ≡ accept l → Good (All Ok) (write_items write) s (gathered l)
    unfolding items_in gathered before after
    in_good zero p [] l h e = subst (λ (v : List (Mended (List A))). Good (All Ok) (write_items write) [] (gathered v)) (got_inj e) (record { ok = tt; given = refl; mended = refl; small = tt })
    in_good zero p (c ∷ s) l h e = bad_got e
    in_good (suc f) p [] l h e = subst (λ (v : List (Mended (List A))). Good (All Ok) (write_items write) [] (gathered v)) (got_inj e) (record { ok = tt; given = refl; mended = refl; small = tt })
    in_good (suc f) p (c ∷ s) l h e =
        by_got (item p (c ∷ s)) _ e (λ x ex e₁.
        by_got (items_in f item x.place x.left) _ e₁ (λ k ek e₂.
        let a = good p (c ∷ s) x h ex in
        let g = in_good f x.place x.left k a.bytes ek in
        subst (λ (v : List (Mended (List A))). Good (All Ok) (write_items write) (c ∷ s) (gathered v)) (got_inj e₂)
        (record {
          ok = all_append Ok x.value.value (gathered k).value a.ok g.ok;
          given = before-append x.value.edits (gathered k).edits ∙ ap (λ (r : List ℕ). before x.value.edits ++ r) g.given ∙ a.given;
          mended = after-append x.value.edits (gathered k).edits ∙ ap₂ ◌++◌ a.mended g.mended ∙ sym (items-append x.value.value (gathered k).value);
          small = all_append Small x.value.edits (gathered k).edits a.small g.small;
        })))

    pub items-good : (p : ℕ) (s : List ℕ) (m : Mended (List A)) → AllBytes s → mend_items item p s ≡ accept m → Good (All Ok) (write_items write) s m
    unfolding mend_items items
    items-good p s m h e =
        by_got (items_in (length s) item p s) _ e (λ l el e₁. subst (Good (All Ok) (write_items write) s) (got_inj e₁) (in_good (length s) p s l h el))
