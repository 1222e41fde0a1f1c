-- Which numbers of a row are judged: the laws in the words of the code.
use mathlib.Core.Path.{◌≡◌, refl, sym, ◌∙◌}
use Prim.Native.Nat.{ℕ, ◌+◌, ◌-◌, ◌*◌, ◌/◌, ◌%◌}
use native.Mathlib.Omega.{arith}
use mathlib.Core.Bool.{Bool, true, false}
use lib.ListN.{length}
use types.Run.{OneOf, hit}
use denote.Enum.Declared.{tag_of}
use Rattle.layout.specs.Rules.{names}
use Rattle.b3d_spec.specs.declared.Tag.{Tag}
use Rattle.b3d_spec.specs.declared.Tag.TheVariants.{NODE, VRTS, TRIS, BONE, ANIM}
use Rattle.b3d_spec.specs.Rules.{bone_limit}
use Rattle.b3d_spec.specs.contracts.Tag.{the_type}
use Rattle.b3d_pieces_spec.specs.declared.Totals.{Totals}
use Rattle.b3d_pieces_spec.specs.declared.Kept.{Kept}
use Rattle.b3d_pieces_spec.specs.declared.Open.{Open}
use Rattle.b3d_pieces_spec.specs.Bodies.{above, rules_of, nests, text_items}
use Rattle.b3d_pieces_rules.specs.Faults.{inner_fault, row_fault}
use Rattle.b3d_pieces_rules.proofs.FaultLaws.{name-yes, colour-yes, ids-valid, ids-past, vertex-low, vertex-colour, vertex-later, fixed_free, fixed-free, inner_free, inner-free, inner_vrts, inner_tris, inner-bone, row_fixed, row-inner}
use Rattle.b3d_pieces_skip_numbers.specs.declared.JudgedNumbers.{JudgedNumbers}
use Rattle.b3d_pieces_skip_numbers.specs.declared.RowRules.{RowRules}
use Rattle.b3d_pieces_skip_numbers.specs.Places.{JudgedIs, RulesAre}
use Rattle.b3d_pieces_skip_rows.specs.Items.{ids_of, AnyRow, FixedIs, AgainIs}

-- two booleans that differ
differ : {B : Type 0} → true ≡ false → B
differ e = let z : ◌≡◌ {A = ℕ} 0 1 = cc in absurd (omega arith)

pub every-row : (q : JudgedNumbers) → q ≡ record { first = 0; past = 4294967295; colour = false; names = 0 } → AnyRow q
every-row q e = rw e (record {
  is = λ fixed t k g. record {
    below = λ i w h. absurd (omega arith);
    above = λ i w h l. absurd (omega arith);
    colours = λ c. differ (sym c);
    ids = λ c i w a b h. absurd (omega arith);
  };
})

-- no number is judged
free : (q : JudgedNumbers) (fixed : Bool) (t : Tag) (k : Kept) (g : Totals) → q ≡ ids_of 0 0 → ((i w : ℕ) → 0 ≡ row_fault fixed t k g i w) → JudgedIs q fixed t k g
free q fixed t k g e h = rw e (record { below = λ i w l. h i w; above = λ i w l m. h i w; colours = λ c. differ (sym c); ids = λ c i w a b l. h i w })

module _ (t : Tag) (q : JudgedNumbers) where
  fixed_none : (u : Tag) → OneOf fixed_free (tag_of the_type u) → t ≡ u → q ≡ ids_of 0 0 → FixedIs t q
  fixed_none u o et e = rw et (record { is = λ k g. free q true u k g e (λ i w. row_fixed k g i w 0 u true refl (fixed-free u o g i w 0 refl)) })

  pub fixed_node : t ≡ NODE → q ≡ ids_of 0 0 → FixedIs t q
  fixed_node et e = fixed_none NODE (hit fixed_free 3 tt) et e

  pub fixed_anim : t ≡ ANIM → q ≡ ids_of 0 0 → FixedIs t q
  fixed_anim et e = fixed_none ANIM (hit fixed_free 9 tt) et e

  pub fixed_every : AnyRow q → FixedIs t q
  fixed_every h = record { is = λ k g. h.is true t k g }

pub ruleset fixed_laws = (fixed_node, fixed_anim, fixed_every)

module _ (t : Tag) (k : Kept) (g : Totals) (q : JudgedNumbers) where
  pub inner-none : OneOf inner_free (tag_of the_type t) → q ≡ ids_of 0 0 → JudgedIs q false t k g
  inner-none o e = free q false t k g e (λ i w. row-inner k g i w 0 t false refl (inner-free t o k g i w 0 refl))

  pub every-inner : AnyRow q → JudgedIs q false t k g
  every-inner h = h.is false t k g

  inner : (i w : ℕ) → 0 ≡ inner_fault t k g i w → 0 ≡ row_fault false t k g i w
  inner i w e = row-inner k g i w 0 t false refl e

  pub ids_tris : t ≡ TRIS → q ≡ ids_of 3 g.own → JudgedIs q false t k g
  ids_tris et e = rw e (record {
    below = λ i w l. absurd (omega arith);
    above = λ i w l m. inner i w (inner_tris k g i w 0 t et (ids-past 3 g.own i w 0 l refl));
    colours = λ c. differ (sym c);
    ids = λ c i w a b l. inner i w (inner_tris k g i w 0 t et (ids-valid 3 g.own i w 0 b (name-yes g.own w 0 l refl)));
  })

  pub ids-bone : t ≡ BONE → (n : ℕ) → n ≡ bone_limit (above g) → q ≡ ids_of 1 n → JudgedIs q false t k g
  ids-bone et n en e = rw e (record {
    below = λ i w l. absurd (omega arith);
    above = λ i w l m. inner i w (inner-bone k g i w 0 t et n en (ids-past 1 n i w 0 l refl));
    colours = λ c. differ (sym c);
    ids = λ c i w a b l. inner i w (inner-bone k g i w 0 t et n en (ids-valid 1 n i w 0 b (name-yes n w 0 l refl)));
  })

  pub colours_vrts : t ≡ VRTS
      → q ≡ record { first = 3 + k.first / 1 % 2 * 3; past = 3 + k.first / 1 % 2 * 3 + k.first / 2 % 2 * 4; colour = true; names = 0 }
      → JudgedIs q false t k g
  colours_vrts et e =
      let flags = k.first in
      let a = 3 + flags / 1 % 2 * 3 in
      rw e (record {
        below = λ i w l. inner i w (inner_vrts k g i w 0 t et (vertex-low i w 0 flags a refl l refl));
        above = λ i w l m. inner i w (inner_vrts k g i w 0 t et (vertex-later i w 0 flags a refl (omega arith) (omega arith) refl));
        colours = λ c i w l m h. inner i w (inner_vrts k g i w 0 t et (vertex-colour i w 0 flags a refl l (omega arith) (colour-yes w 0 true (sym h) refl refl)));
        ids = λ c. differ c;
      })

pub ruleset inner_laws = (inner-none, every-inner, ids_tris, ids-bone, colours_vrts)

-- ---- rows one after the other

module _ (fixed : Bool) (t : Tag) (r : Bool) where
  pub again-not : r ≡ false → AgainIs fixed t r
  again-not e = record { is = λ y. differ (sym y ∙ e) }

  pub again-rows : fixed ≡ false → (u : Tag) → t ≡ u → nests u ≡ false → text_items u ≡ false → AgainIs fixed t r
  again-rows ef u et c x = record { is = λ y. record { items = ef; chunks = rw et c; texts = rw et x } }

pub ruleset again_laws = (again-not, again-rows)

-- ---- both

module _ (fixed : Bool) (t : Tag) (k : Kept) (g : Totals) (q : JudgedNumbers) where
  pub judged_fixed : fixed ≡ true → FixedIs t q → JudgedIs q fixed t k g
  judged_fixed e h = rw e (h.is k g)

  pub judged-inner : fixed ≡ false → JudgedIs q false t k g → JudgedIs q fixed t k g
  judged-inner e h = rw e h

pub ruleset judged_laws = (judged_fixed, judged-inner)

pub rules_are : (fixed : Bool) (g : Totals) (f : Open) (n : ℕ) → n ≡ length (rules_of fixed f.tag f.kept g) → (q : JudgedNumbers) → JudgedIs q fixed f.tag f.kept g → (b : Bool) → AgainIs fixed f.tag b
    → (r : RowRules) → r ≡ record { long = n; judged = q; again = b; end = f.end } → RulesAre r fixed g f
rules_are fixed g f n en q eq b eb r e = rw e (record { long = en; judged = eq; again = eb.is; end = refl })
