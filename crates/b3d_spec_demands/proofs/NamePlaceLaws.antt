-- A scene with its names at other places: where lent rows have the cells of a scene, name places aside, and its names, there is a scene
-- with just those rows.
use mathlib.Core.Path.{◌≡◌, refl, ap, ap₂, sym, ◌∙◌, subst}
use Prim.Native.Nat.{ℕ, zero, suc, ◌+◌}
use native.Mathlib.Omega.{arith}
use mathlib.Core.Option.{Option, none, some}
use mathlib.Core.List.{List, [], ◌∷◌, ◌++◌, map, append_assoc}
use lib.ListN.{length, take, drop, get_or}
use lib.Dec.{leb, leb→le, le→leb}
use Rattle.wire.specs.Test.{if}
use Rattle.layout.specs.Parts.{Name}
use Rattle.layout.proofs.AllLaws.{All}
use Rattle.layout.proofs.ResultLaws.{by_test, if_yes, if_no}
use Rattle.layout.specs.Rows.{name_cells}
use Rattle.b3d_spec.specs.declared.Counts.{Counts}
use Rattle.b3d_spec.specs.Names.{rename_data, rename_forest, bare_name}
use Rattle.b3d_spec.specs.Rebuild.{node_names}
use Rattle.b3d_spec.specs.Rules.{bone_limit_below, bone_limit}
use Rattle.b3d_spec.specs.Scene.{Data, Forest, no_nodes, node}
use Rattle.b3d_spec.specs.Tables.{node_row, own_rows, with_node, with_forest, forest_rows, nodes_in}
use Rattle.b3d_spec.proofs.WellFormedLaws.{FitData, FitNodes}
use Rattle.b3d_spec.proofs.Rows.RebuildLaws.{names-rest}
use Rattle.b3d_spec.proofs.Rows.RowPartLaws.{Stands}
use Rattle.b3d_spec_demands.specs.Having.{name_of}

-- ---- rows

-- y is row x of a file s but for its name's place, and its name in ns is that of x in s
pub record Alike (s ns x y : List ℕ) : Type 0 where
  pub cells : drop 1 x ≡ drop 1 y
  pub some_cell : y ≡ get_or y 0 0 ∷ drop 1 y
  pub name : name_of s x ≡ name_of ns y

abbrev pub Alikes : List ℕ → List ℕ → List (List ℕ) → List (List ℕ) → Type 0
Alikes s ns [] [] = Unit {0}
Alikes s ns [] (y ∷ ys) = ⊥
Alikes s ns (x ∷ xs) [] = ⊥
Alikes s ns (x ∷ xs) (y ∷ ys) = Alike s ns x y × Alikes s ns xs ys

-- a name at another place
abbrev at_place : ℕ → Name → Name
at_place p n = record { place = p; bytes = n.bytes }

pub some_inj : {A : Type 0} {x y : A} → some x ≡ some y → x ≡ y
some_inj e = cc

some-none : {A B : Type 0} {x : A} → ◌≡◌ {A = Option A} (some x) none → B
some-none e = let z : ◌≡◌ {A = ℕ} 0 1 = cc in absurd (omega arith)

-- a name that stands in ns is the name of a row that begins with its cells
pub name-stands : (ns : List ℕ) (n : Name) (r : List ℕ) → Stands ns n → name_of ns (name_cells n ++ r) ≡ some n.bytes
unfolding name_of name_cells
name-stands ns n r h = if_yes (leb (n.place + length n.bytes) (length ns)) _ none (le→leb (n.place + length n.bytes) (length ns) h.0) ∙ ap some h.1

-- a row that begins with a name
module _ (s ns : List ℕ) (n : Name) (h : Stands s n) (r y : List ℕ) (a : Alike s ns (name_cells n ++ r) y) where
  pub row-placed : name_cells (at_place (get_or y 0 0) n) ++ r ≡ y
  unfolding name_cells
  row-placed = ap (λ (l : List ℕ). get_or y 0 0 ∷ l) a.cells ∙ sym a.some_cell

  long : get_or y 1 0 ≡ length n.bytes
  unfolding name_cells
  long = ap (λ (l : List ℕ). get_or l 1 0) (sym row-placed)

  pub stands-placed : Stands ns (at_place (get_or y 0 0) n)
  unfolding name_of name_cells
  stands-placed =
      by_test (leb (get_or y 0 0 + get_or y 1 0) (length ns))
      (λ t. let e = some_inj (sym (name-stands s n r h) ∙ a.name ∙ if_yes (leb (get_or y 0 0 + get_or y 1 0) (length ns)) _ none t) in
      (let le = leb→le (get_or y 0 0 + get_or y 1 0) (length ns) t in omega (arith, long), ap (λ (k : ℕ). take k (drop (get_or y 0 0) ns)) (sym long) ∙ sym e))
      (λ t. some-none (sym (name-stands s n r h) ∙ a.name ∙ if_no (leb (get_or y 0 0 + get_or y 1 0) (length ns)) _ none t))

-- ---- lists of parts whose rows begin with a name

-- the row of a part x is its name's cells and r x; `put` changes its name's place alone
module _ {A : Type 0} (name : A → Name) (r : A → List ℕ) (put : ℕ → A → A) (without_places : A → A) (Ok : A → Type 0)
    (name-put : (p : ℕ) (x : A) → name (put p x) ≡ at_place p (name x)) (r-put : (p : ℕ) (x : A) → r (put p x) ≡ r x)
    (bare-put : (p : ℕ) (x : A) → without_places (put p x) ≡ without_places x) (ok-put : (p : ℕ) (x : A) → Ok x → Ok (put p x)) (s ns : List ℕ) where
  abbrev row : A → List ℕ
  row x = name_cells (name x) ++ r x

  pub record PlacedList (xs : List A) (ys : List (List ℕ)) : Type 0 where
    pub list : List A
    pub rows : map row list ≡ ys
    pub same : map without_places list ≡ map without_places xs
    pub ok : All Ok list
    pub stand : All (λ x. Stands ns (name x)) list

  pub place-list : (xs : List A) (ys : List (List ℕ)) → All (λ x. Stands s (name x)) xs → All Ok xs → Alikes s ns (map row xs) ys → PlacedList xs ys
  place-list [] [] h o a = record { list = []; rows = refl; same = refl; ok = tt; stand = tt }
  place-list [] (y ∷ ys) h o a = absurd a
  place-list (x ∷ xs) [] h o a = absurd a
  place-list (x ∷ xs) (y ∷ ys) h o a =
      let p = get_or y 0 0 in
      let v = place-list xs ys h.1 o.1 a.1 in
      record {
        list = put p x ∷ v.list;
        rows = ap₂ ◌∷◌ (ap₂ (λ (n : Name) (l : List ℕ). name_cells n ++ l) (name-put p x) (r-put p x) ∙ row-placed s ns (name x) h.0 (r x) y a.0) v.rows;
        same = ap₂ ◌∷◌ (bare-put p x) v.same;
        ok = (ok-put p x o.0, v.ok);
        stand = (rw (name-put p x) (stands-placed s ns (name x) h.0 (r x) y a.0), v.stand);
      }

-- ---- nodes

abbrev put_data : ℕ → Data → Data
put_data p d = record { name = at_place p d.name; words = d.words; kind = d.kind; keys = d.keys; anim = d.anim }

same_bones : (p : ℕ) (above : Option ℕ) (d : Data) → bone_limit_below above d ≡ bone_limit_below above (put_data p d)
same_bones p none d = refl
same_bones p (some n) d = refl

same_counts : (p : ℕ) (d : Data) (n : Counts) → with_node (put_data p d) n ≡ with_node d n
unfolding with_node
same_counts p d n = refl

fit_data : (b c p : ℕ) (d : Data) → FitData b c d → FitData b c (put_data p d)
fit_data b c p d h = record { name = h.name; words = h.words; kind = h.kind; keys = h.keys; anim = h.anim }

module _ (s ns : List ℕ) where
  -- a forest with the rows of `ys` in table 3, and what follows them
  pub record PlacedForest (t : Forest) (p : ℕ) (n : Counts) (S ys : List (List ℕ)) : Type 0 where
    pub forest : Forest
    pub rest : List (List ℕ)
    pub rows : forest_rows 3 forest p n ++ rest ≡ ys
    pub alike : Alikes s ns S rest
    pub same : rename_forest bare_name forest ≡ rename_forest bare_name t
    pub counts : (m : Counts) → with_forest forest m ≡ with_forest t m
    pub many : nodes_in forest ≡ nodes_in t
    pub fit : (l b : ℕ) (above : Option ℕ) → FitNodes l b above t → FitNodes l b above forest
    pub stand : (r : List Name) → All (Stands ns) r → All (Stands ns) (node_names forest r)

  pub place-forest : (t : Forest) (p : ℕ) (n : Counts) (S ys : List (List ℕ)) (r : List Name) → All (Stands s) (node_names t r) → Alikes s ns (forest_rows 3 t p n ++ S) ys → PlacedForest t p n S ys
  unfolding forest_rows with_forest nodes_in node_names own_rows if node_row
  place-forest no_nodes p n S ys r h a = record {
    forest = no_nodes;
    rest = ys;
    rows = refl;
    alike = a;
    same = refl;
    counts = λ m. refl;
    many = refl;
    fit = λ l b above f. f;
    stand = λ q k. k;
  }
  place-forest (node d ch sib) p n S [] r h a = absurd a
  place-forest (node d ch sib) p n S (y ∷ ys) r h a =
      let m = with_node d n in
      let q = with_forest ch m in
      let i = get_or y 0 0 in
      let c = forest_rows 3 ch n.nodes m in
      let b = forest_rows 3 sib p q in
      let u = place-forest ch n.nodes m (b ++ S) ys (node_names sib r) h.1 (subst (λ (l : List (List ℕ)). Alikes s ns l ys) (append_assoc c b S) a.1) in
      let v = place-forest sib p q S u.rest r (names-rest (Stands s) ch (node_names sib r) h.1) u.alike in
      let same_m : with_node (put_data i d) n ≡ m = same_counts i d n in
      let same_q : with_forest u.forest (with_node (put_data i d) n) ≡ q = ap (with_forest u.forest) same_m ∙ u.counts m in
      record {
        forest = node (put_data i d) u.forest v.forest;
        rest = v.rest;
        rows =
            ap₂ ◌∷◌ (ap (λ (j : ℕ). node_row (put_data i d) p j n) u.many ∙ row-placed s ns d.name h.0 _ y a.0)
            (append_assoc (forest_rows 3 u.forest n.nodes (with_node (put_data i d) n)) _ v.rest
            ∙ ap₂ (λ (e f : Counts). forest_rows 3 u.forest n.nodes e ++ (forest_rows 3 v.forest p f ++ v.rest)) same_m same_q
            ∙ ap (λ (l : List (List ℕ)). forest_rows 3 u.forest n.nodes m ++ l) v.rows ∙ u.rows);
        alike = v.alike;
        same = ap₂ (node (rename_data bare_name d)) u.same v.same;
        counts = λ e. ap (with_forest v.forest) (u.counts (with_node (put_data i d) e)) ∙ v.counts (with_forest ch (with_node (put_data i d) e)) ∙ ap (λ (f : Counts). with_forest sib (with_forest ch f)) (same_counts i d e);
        many = ap₂ (λ (k l : ℕ). suc (k + l)) u.many v.many;
        fit = fits u v;
        stand = λ k hk. (stands-placed s ns d.name h.0 _ y a.0, u.stand (node_names v.forest k) (v.stand k hk));
      }
    where
      fits : {P Q : List (List ℕ)} {i j : ℕ} {m q : Counts} {R : List (List ℕ)} (u : PlacedForest ch i m P ys) (v : PlacedForest sib j q Q R) (l b : ℕ) (above : Option ℕ)
          → FitNodes l b above (node d ch sib) → FitNodes l b above (node (put_data (get_or y 0 0) d) u.forest v.forest)
      fits u v zero b above f = f
      fits u v (suc l) b above f =
          (fit_data b (bone_limit above) (get_or y 0 0) d f.0, rw (← same_bones (get_or y 0 0) above d) (u.fit l b (bone_limit_below above d) f.1), v.fit (suc l) b above f.2)
