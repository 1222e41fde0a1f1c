-- How many entries submeshes hold, and what the readings of submeshes answer.
use Rattle.layout.specs.Refused.{refusal_at}
use Rattle.std.specs.Prelude as std
use Rattle.layout.specs.declared.Refusal.{Refusal}
use Rattle.std.specs.Prelude.{ℕ, ◌+◌, ◌≤◌, ◌≡◌, List, [], map, length, Ok, Err}
use Rattle.wire.specs.declared.Cursor.{Cursor}
use Rattle.layout.specs.Result.{Result, accept, reject, ◌>>=◌}
use Rattle.layout.specs.Parts.{Step, row}
use Rattle.layout.specs.Counted.{times}
use Rattle.layout.specs.Rows.{joined}
use Rattle.cal3d_spec.specs.Rules.{spring_numbers, face_numbers}
use Rattle.cal3d_spec.specs.Meshes.{Submesh, read_vertex}
use Rattle.cal3d_spec.specs.Tables.{vertices_of}
use Rattle.cal3d_mesh_vertices.specs.Vertices.{maps_in, influences_in}
use Rattle.cal3d_mesh_submesh_lists.specs.declared.Contents.{Contents}

-- how many entries the submesh x holds
unfoldable pub contents_of : Submesh → Contents
contents_of x =
    record {
      vertices = length x.vertices;
      maps = maps_in x.vertices;
      influences = influences_in x.vertices;
      springs = length x.springs;
      faces = length x.faces;
    }

-- how many entries the submeshes hold together
unfoldable pub contents_in : List Submesh → Contents
contents_in l =
    record {
      vertices = length (vertices_of l);
      maps = maps_in (vertices_of l);
      influences = influences_in (vertices_of l);
      springs = length (joined (map (λ (x : Submesh). x.springs) l));
      faces = length (joined (map (λ (x : Submesh). x.faces) l));
    }

-- the sum of a and b, count by count
abbrev pub both : Contents → Contents → Contents
both a b =
    record {
      vertices = a.vertices + b.vertices;
      maps = a.maps + b.maps;
      influences = a.influences + b.influences;
      springs = a.springs + b.springs;
      faces = a.faces + b.faces;
    }

-- each count of t is at most `most`
pub record CountsWithin (t : Contents) (most : ℕ) : Type 0 where
  pub vertices : t.vertices ≤ most
  pub maps : t.maps ≤ most
  pub influences : t.influences ≤ most
  pub springs : t.springs ≤ most
  pub faces : t.faces ≤ most

-- the submesh at p after its numbers, which are left out, by its counts; bone ids are below `bones`
unfoldable pub read_lists : ℕ → ℕ → ℕ → ℕ → ℕ → ℕ → List ℕ → Result (Step Submesh)
read_lists bones vertices springs maps faces p s = do
  v ← times vertices (read_vertex bones vertices springs maps) p s
  g ← times springs (row (spring_numbers vertices)) v.place v.left
  f ← times faces (row (face_numbers vertices)) g.place g.left
  accept (record { value = record { numbers = []; vertices = v.value; springs = g.value; faces = f.value }; place = f.place; left = f.left })

-- what code answers for what was read: how many entries it holds and the cursor after it, up to the same end; or the refusal
abbrev pub contained_of : {A : Type 0} → (A → Contents) → ℕ → Result (Step A) → std.Result (Contents × Cursor) Refusal
contained_of contents end (accept x) = Ok (contents x.value, record { at = x.place; end = end })
contained_of contents end (reject n p) = Err (refusal_at n p)

-- from c to n there are at least k bytes, and one for each entry of any one kind
pub record Takes (c : Cursor) (k : ℕ) (t : Contents) (n : Cursor) : Type 0 where
  -- for the vertices
  pub vertices : c.at + k + t.vertices ≤ n.at
  -- for the maps
  pub maps : c.at + k + t.maps ≤ n.at
  -- for the influences
  pub influences : c.at + k + t.influences ≤ n.at
  -- for the springs
  pub springs : c.at + k + t.springs ≤ n.at
  -- for the faces
  pub faces : c.at + k + t.faces ≤ n.at
  -- n is not past its end
  pub before : n.at ≤ n.end
  -- n has the end of c
  pub same : n.end ≡ c.end

-- at least k bytes after c were passed, and one for each entry of any one kind; a refusal's place is not past the end
abbrev pub ContentPasses : Cursor → ℕ → std.Result (Contents × Cursor) Refusal → Type 0
ContentPasses c k (Ok (t, n)) = Takes c k t n
ContentPasses c k (Err e) = e.place ≤ c.end

-- r is what code answers for o, which was read at c and has at least k bytes
pub record Contains {A : Type 0} (contents : A → Contents) (o : Result (Step A)) (c : Cursor) (k : ℕ)
    (r : std.Result (Contents × Cursor) Refusal) : Type 0 where
  -- r is o's numbers of entries and cursor, or its refusal
  pub is : r ≡ contained_of contents c.end o
  -- at least these bytes were passed
  pub passes : ContentPasses c k r
