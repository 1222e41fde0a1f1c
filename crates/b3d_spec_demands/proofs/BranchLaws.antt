-- The rows behind a node's, as many as its last word says, are the nodes below it: a row stands there just where its parent is the node or stands there.
use mathlib.Core.Path.{◌≡◌, refl, ap, sym, subst}
use mathlib.Core.Logic.{◌⊎◌, inl, inr}
use Prim.Native.Nat.{ℕ, zero, suc, ◌+◌, ◌≤◌, ◌<◌}
use native.Mathlib.Omega.{arith}
use mathlib.Core.Option.{Option, none}
use mathlib.Core.List.{List, [], ◌∷◌, ◌++◌}
use lib.ListN.{length, get_or, length-append}
use Rattle.wire.specs.Bytes.{AllBytes}
use Rattle.wire.specs.Test.{if}
use Rattle.layout.specs.Rules.{NONE}
use Rattle.layout.specs.Rows.{name_cells}
use Rattle.b3d_spec.specs.declared.Counts.{Counts}
use Rattle.b3d_spec.specs.declared.Mode.{Mode}
use Rattle.b3d_spec.specs.Answers.{judge}
use Rattle.b3d_spec.specs.Rules.{bone_limit_below, bone_limit, levels}
use Rattle.b3d_spec.specs.Scene.{Forest, no_nodes, node}
use Rattle.b3d_spec.specs.Tables.{start, node_row, nodes_in, own_rows, with_node, with_forest, forest_rows, rows, tables, node_tables}
use Rattle.b3d_spec.proofs.AnswerLaws.{judge_got}
use Rattle.b3d_spec.proofs.WellFormedLaws.{FitNodes}
use Rattle.b3d_spec.proofs.Laws.{fine}
use Rattle.b3d_spec.proofs.Rows.NodeRowLaws.{nodes-step}
use Rattle.b3d_spec.proofs.Rows.RowPartLaws.{below_cell}
use Rattle.b3d_spec_demands.specs.Branches.{parent_of, branch_of, Under, child, deeper, Branch, Branches}

-- ---- rows with their numbers, from i on

abbrev At : ℕ → List (List ℕ) → (ℕ → List ℕ → Type 0) → Type 0
At i [] P = Unit {0}
At i (x ∷ xs) P = P i x × At (suc i) xs P

module _ (P : ℕ → List ℕ → Type 0) where
  at-get : (i : ℕ) (xs : List (List ℕ)) → At i xs P → (k : ℕ) → k < length xs → P (i + k) (get_or xs k [])
  at-get i [] h k l = absurd (omega arith)
  at-get i (x ∷ xs) h zero l = let e : i ≡ i + 0 = omega arith in subst (λ (j : ℕ). P j x) e h.0
  at-get i (x ∷ xs) h (suc k) l = let e : suc i + k ≡ i + suc k = omega arith in subst (λ (j : ℕ). P j (get_or xs k [])) e (at-get (suc i) xs h.1 k (omega arith))

  at-append : (i j : ℕ) (xs ys : List (List ℕ)) → j ≡ i + length xs → At i xs P → At j ys P → At i (xs ++ ys) P
  at-append i j [] ys e h k = let z : j ≡ i = omega arith in subst (λ (m : ℕ). At m ys P) z k
  at-append i j (x ∷ xs) ys e h k = (h.0, at-append (suc i) j xs ys (omega arith) h.1 k)

  at_map : (Q : ℕ → List ℕ → Type 0) → ((k : ℕ) (x : List ℕ) → P k x → Q k x) → (i : ℕ) (xs : List (List ℕ)) → At i xs P → At i xs Q
  at_map Q f i [] h = tt
  at_map Q f i (x ∷ xs) h = (f i x h.0, at_map Q f (suc i) xs h.1)

  at-zip : (Q R : ℕ → List ℕ → Type 0) → ((k : ℕ) (x : List ℕ) → P k x → Q k x → R k x) → (i : ℕ) (xs : List (List ℕ)) → At i xs P → At i xs Q → At i xs R
  at-zip Q R f i [] h k = tt
  at-zip Q R f i (x ∷ xs) h k = (f i x h.0 k.0, at-zip Q R f (suc i) xs h.1 k.1)

-- ---- a row among those of nodes under p, from i to e

abbrev parent : List ℕ → ℕ
parent x = get_or x 2 0

abbrev branch : List ℕ → ℕ
branch x = get_or x 20 0

-- its branch ends before e; its parent is p or a row of these before it
record Placed (p i e : ℕ) (r : ℕ) (x : List ℕ) : Type 0 where
  from : i ≤ r
  to : r + branch x < e
  above : (parent x ≡ p) ⊎ ((i ≤ parent x) × (parent x < r))

-- row j stands in the branch of row r just where its parent is r or stands there
record Holds (r : ℕ) (x : List ℕ) (j : ℕ) (y : List ℕ) : Type 0 where
  inside : r < j → j ≤ r + branch x → (r ≤ parent y) × (parent y < j)
  outside : r ≤ parent y → parent y ≤ r + branch x → (r < j) × (j ≤ r + branch x)

-- p is none of the rows from i to e
abbrev Away : ℕ → ℕ → ℕ → Type 0
Away p i e = (p < i) ⊎ (e ≤ p)

abbrev All₂ : ℕ → List (List ℕ) → ℕ → List (List ℕ) → Type 0
All₂ i xs j ys = At i xs (λ r x. At j ys (Holds r x))

module _ (p i e : ℕ) (away : Away p i e) where
  -- a row, those of the nodes in it, from i + 1 to m, and those of the nodes beside it, from m to e
  module _ (m : ℕ) (low : suc i ≤ m) (high : m ≤ e) where
    row-row : (x : List ℕ) → i + branch x < m → parent x ≡ p → Holds i x i x
    row-row x b q = record {
      inside = λ h k. absurd (omega arith);
      outside = λ h k. elim away [ inl a ↦ absurd (omega arith) | inr a ↦ absurd (omega arith) ];
    }

    row_in : (x : List ℕ) → i + branch x + 1 ≡ m → (j : ℕ) (y : List ℕ) → Placed i (suc i) m j y → Holds i x j y
    row_in x b j y h = record {
      inside = λ k l. elim h.above [ inl a ↦ (omega arith, omega (arith, h.from)) | inr a ↦ (omega arith, omega arith) ];
      outside = λ k l. (omega (arith, h.from), omega (arith, h.to));
    }

    row-beside : (x : List ℕ) → i + branch x + 1 ≡ m → (j : ℕ) (y : List ℕ) → Placed p m e j y → Holds i x j y
    row-beside x b j y h = record {
      inside = λ k l. absurd (omega (arith, h.from));
      outside = λ k l. elim h.above [ inl a ↦ elim away [ inl c ↦ absurd (omega arith) | inr c ↦ absurd (omega arith) ] | inr a ↦ absurd (omega arith) ];
    }

    in_row : (x : List ℕ) → parent x ≡ p → (r : ℕ) (y : List ℕ) → Placed i (suc i) m r y → Holds r y i x
    in_row x q r y h = record {
      inside = λ k l. absurd (omega (arith, h.from));
      outside = λ k l. elim away [ inl c ↦ absurd (omega (arith, h.from)) | inr c ↦ absurd (omega (arith, h.to)) ];
    }

    beside-row : (x : List ℕ) → parent x ≡ p → (r : ℕ) (y : List ℕ) → Placed p m e r y → Holds r y i x
    beside-row x q r y h = record {
      inside = λ k l. absurd (omega (arith, h.from));
      outside = λ k l. elim away [ inl c ↦ absurd (omega (arith, h.from)) | inr c ↦ absurd (omega (arith, h.to)) ];
    }

    in_beside : (r : ℕ) (x : List ℕ) → Placed i (suc i) m r x → (j : ℕ) (y : List ℕ) → Placed p m e j y → Holds r x j y
    in_beside r x h j y k = record {
      inside = λ a b. absurd (omega (arith, h.to, k.from));
      outside = λ a b. elim k.above [ inl c ↦ elim away [ inl f ↦ absurd (omega (arith, h.from)) | inr f ↦ absurd (omega (arith, h.to)) ] | inr c ↦ absurd (omega (arith, h.to)) ];
    }

    beside_in : (r : ℕ) (x : List ℕ) → Placed p m e r x → (j : ℕ) (y : List ℕ) → Placed i (suc i) m j y → Holds r x j y
    beside_in r x h j y k = record {
      inside = λ a b. absurd (omega (arith, h.from, k.to));
      outside = λ a b. elim k.above [ inl c ↦ absurd (omega (arith, h.from)) | inr c ↦ absurd (omega (arith, h.from, k.to)) ];
    }

-- ---- a forest

after-nodes : (t : Forest) (n : Counts) → (with_forest t n).nodes ≡ n.nodes + nodes_in t
unfolding with_forest nodes_in
after-nodes no_nodes n = omega arith
after-nodes (node d ch sib) n =
    let m = with_node d n in
    omega (arith, after-nodes ch m, after-nodes sib (with_forest ch m), nodes-step d n)

rows_long : (t : Forest) (p : ℕ) (n : Counts) → length (forest_rows 3 t p n) ≡ nodes_in t
unfolding forest_rows own_rows if nodes_in
rows_long no_nodes p n = refl
rows_long (node d ch sib) p n =
    let m = with_node d n in
    let a = forest_rows 3 ch n.nodes m in
    let b = forest_rows 3 sib p (with_forest ch m) in
    omega (arith, length-append a b, rows_long ch n.nodes m, rows_long sib p (with_forest ch m))

record Forested (p i e : ℕ) (xs : List (List ℕ)) : Type 0 where
  placed : At i xs (Placed p i e)
  holds : All₂ i xs i xs

-- a row, and rows of nodes in it and beside it
module _ (p i m e : ℕ) (away : Away p i e) (x : List ℕ) (inner later : List (List ℕ)) (q : parent x ≡ p) (b : i + branch x + 1 ≡ m) (la : m ≡ suc i + length inner) (high : m ≤ e)
    (u : Forested i (suc i) m inner) (v : Forested p m e later) where
  abbrev low : suc i ≤ m
  low = omega arith

  wider_in : (r : ℕ) (y : List ℕ) → Placed i (suc i) m r y → Placed p i e r y
  wider_in r y h = record { from = omega (arith, h.from); to = omega (arith, h.to); above = elim h.above [ inl a ↦ inr (omega arith, omega (arith, h.from)) | inr a ↦ inr (omega arith, omega arith) ] }

  wider_beside : (r : ℕ) (y : List ℕ) → Placed p m e r y → Placed p i e r y
  wider_beside r y h = record { from = omega (arith, h.from); to = h.to; above = elim h.above [ inl a ↦ inl a | inr a ↦ inr (omega arith, omega arith) ] }

  abbrev Q : ℕ → List ℕ → Type 0
  Q r y = At i (x ∷ (inner ++ later)) (Holds r y)

  of_row : Q i x
  of_row = (
    row-row p i e away m low high x (omega arith) q,
    at-append (Holds i x) (suc i) m inner later la (at_map (Placed i (suc i) m) (Holds i x) (row_in p i e away m low high x b) (suc i) inner u.placed)
        (at_map (Placed p m e) (Holds i x) (row-beside p i e away m low high x b) m later v.placed),
  )

  of_in : (r : ℕ) (y : List ℕ) → Placed i (suc i) m r y → At (suc i) inner (Holds r y) → Q r y
  of_in r y h k = (in_row p i e away m low high x q r y h, at-append (Holds r y) (suc i) m inner later la k (at_map (Placed p m e) (Holds r y) (in_beside p i e away m low high r y h) m later v.placed))

  of-beside : (r : ℕ) (y : List ℕ) → Placed p m e r y → At m later (Holds r y) → Q r y
  of-beside r y h k =
      (beside-row p i e away m low high x q r y h, at-append (Holds r y) (suc i) m inner later la (at_map (Placed i (suc i) m) (Holds r y) (beside_in p i e away m low high r y h) (suc i) inner u.placed) k)

  joined : Forested p i e (x ∷ (inner ++ later))
  joined = record {
    placed = (
      record { from = omega arith; to = omega arith; above = inl q },
      at-append (Placed p i e) (suc i) m inner later la (at_map (Placed i (suc i) m) (Placed p i e) wider_in (suc i) inner u.placed) (at_map (Placed p m e) (Placed p i e) wider_beside m later v.placed),
    );
    holds = (
      of_row,
      at-append Q (suc i) m inner later la (at-zip (Placed i (suc i) m) (λ r y. At (suc i) inner (Holds r y)) Q of_in (suc i) inner u.placed u.holds)
          (at-zip (Placed p m e) (λ r y. At m later (Holds r y)) Q of-beside m later v.placed v.holds),
    );
  }

forest-rows : (l b : ℕ) (above : Option ℕ) (t : Forest) (p : ℕ) (n : Counts) (e : ℕ) → FitNodes l b above t → e ≡ n.nodes + nodes_in t → Away p n.nodes e → Forested p n.nodes e (forest_rows 3 t p n)
unfolding forest_rows own_rows if nodes_in node_row name_cells
forest-rows l b above no_nodes p n e f z a = record { placed = tt; holds = tt }
forest-rows zero b above (node d ch sib) p n e f z a = absurd f
forest-rows (suc l) b above (node d ch sib) p n e f z a =
    let m = with_node d n in
    let k = with_forest ch m in
    let es : m.nodes ≡ suc n.nodes = nodes-step d n in
    let ek : k.nodes ≡ m.nodes + nodes_in ch = after-nodes ch m in
    let inner = forest_rows 3 ch n.nodes m in
    let later = forest_rows 3 sib p k in
    let x = node_row d p (nodes_in ch) n in
    let cell : branch x ≡ nodes_in ch = below_cell b (bone_limit above) d p (nodes_in ch) n f.0 in
    let u = forest-rows l b (bone_limit_below above d) ch n.nodes m k.nodes f.1 ek (inl (omega arith)) in
    let v = forest-rows (suc l) b above sib p k e f.2 (omega arith) (elim a [ inl c ↦ inl (omega arith) | inr c ↦ inr c ]) in
    joined p n.nodes k.nodes e a x inner later refl (omega (arith, cell)) (omega (arith, rows_long ch n.nodes m)) (omega arith)
    (subst (λ (i : ℕ). Forested n.nodes i k.nodes inner) es u) v

-- ---- the branch of a row

module _ (xs : List (List ℕ)) (f : Forested NONE 0 (length xs) xs) (r : ℕ) (h : r < length xs) where
  placed_at : Placed NONE 0 (length xs) r (get_or xs r [])
  placed_at = let e : 0 + r ≡ r = omega arith in subst (λ (k : ℕ). Placed NONE 0 (length xs) k (get_or xs r [])) e (at-get (Placed NONE 0 (length xs)) 0 xs f.placed r h)

  holds_at : (j : ℕ) → j < length xs → Holds r (get_or xs r []) j (get_or xs j [])
  holds_at j k =
      let e : 0 + r ≡ r = omega arith in
      let g : 0 + j ≡ j = omega arith in
      let row = at-get (λ (i : ℕ) (x : List ℕ). At 0 xs (Holds i x)) 0 xs f.holds r h in
      subst (λ (i : ℕ). Holds r (get_or xs r []) i (get_or xs j [])) g (at-get (Holds r (get_or xs r [])) 0 xs (subst (λ (i : ℕ). At 0 xs (Holds i (get_or xs r []))) e row) j k)

  into : (m j : ℕ) → j ≤ m → r < j → j ≤ r + branch_of xs r → Under xs r j
  into zero j le lo hi = absurd (omega arith)
  into (suc m) j le lo hi =
      let k : j < length xs = omega (arith, placed_at.to) in
      let (a, b) = (holds_at j k).inside lo hi in
      elim (equal_or_more r (parent_of xs j) a) [ inl e ↦ child j k (sym e) | inr g ↦ deeper j k (into m (parent_of xs j) (omega arith) g (omega arith)) ]
    where
      equal_or_more : (a b : ℕ) → a ≤ b → (a ≡ b) ⊎ (a < b)
      equal_or_more zero zero l = inl refl
      equal_or_more zero (suc b) l = inr (omega arith)
      equal_or_more (suc a) zero l = absurd (omega arith)
      equal_or_more (suc a) (suc b) l = elim (equal_or_more a b (omega arith)) [ inl e ↦ inl (ap suc e) | inr g ↦ inr (omega arith) ]

  out : (j : ℕ) → Under xs r j → (r < j) × (j ≤ r + branch_of xs r)
  out j (child _ k e) = (holds_at j k).outside (omega (arith, e)) (omega (arith, e))
  out j (deeper _ k u) = let (a, b) = out (parent_of xs j) u in (holds_at j k).outside (omega arith) b

  branch-of : Branch xs r
  branch-of = record { within = placed_at.to; below = λ j lo hi. into j j (omega arith) lo hi; only = out }

pub branches : (mode : Mode) (s : List ℕ) → AllBytes s → Branches mode s
unfolding tables node_tables rows if start
branches mode s bytes t e r h =
    let (parsed, small) = judge_got mode s t e in
    let long = rows_long t.nodes NONE start in
    let few = small.1.1.0 in
    let fit = (fine mode s t bytes parsed).0.nodes in
    branch-of (rows 3 t) (forest-rows levels (length t.brushes) none t.nodes NONE start (length (rows 3 t)) fit (omega (arith, long)) (inr (omega (arith, few)))) r h
