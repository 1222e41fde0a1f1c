-- The row limit on a tally.
use Rattle.std.specs.Prelude.{ℕ, ◌≤◌, ltb}
use Rattle.wire.specs.Test.{if}
use Rattle.b3d_spec.specs.Rules.{row_limit}
use Rattle.b3d_judge_tally.specs.declared.Tally.{Tally}

-- a tally with f k rows of table k, and `copy` bytes of the copy
abbrev pub tallied : (ℕ → ℕ) → ℕ → Tally
tallied f copy =
    record {
      textures = f 1;
      brushes = f 2;
      nodes = f 3;
      meshes = f 4;
      vertices = f 5;
      sets = f 6;
      triangles = f 7;
      weights = f 8;
      lists = f 9;
      keys = f 10;
      copy = copy;
    }

-- the first table of tally t with more rows than the limit, by its number; 0 where there is none
unfoldable pub over_limit : Tally → ℕ
over_limit t =
    if (ltb row_limit t.textures) 1
    (if (ltb row_limit t.brushes) 2
    (if (ltb row_limit t.nodes) 3
    (if (ltb row_limit t.meshes) 4
    (if (ltb row_limit t.vertices) 5
    (if (ltb row_limit t.sets) 6
    (if (ltb row_limit t.triangles) 7
    (if (ltb row_limit t.weights) 8
    (if (ltb row_limit t.lists) 9
    (if (ltb row_limit t.keys) 10 0)))))))))

-- no table of tally t has more rows than the limit
pub record TallyLimited (t : Tally) : Type 0 where
  pub textures : t.textures ≤ row_limit
  pub brushes : t.brushes ≤ row_limit
  pub nodes : t.nodes ≤ row_limit
  pub meshes : t.meshes ≤ row_limit
  pub vertices : t.vertices ≤ row_limit
  pub sets : t.sets ≤ row_limit
  pub triangles : t.triangles ≤ row_limit
  pub weights : t.weights ≤ row_limit
  pub lists : t.lists ≤ row_limit
  pub keys : t.keys ≤ row_limit
