-- What 01 calls private: names, passed-over chunks, where ANIM stands among KEYS, TEXS without items, BRUS without items and its n_texs.
-- Files that differ in nothing else are one file once these are taken out, each enclosing length following.
use Rattle.std.specs.Prelude.{◌≡◌, ℕ, ◌+◌, ◌*◌, ◌≤◌, ◌<◌, List, [], ◌++◌, length}
use Rattle.std.proofs.Math.Option.{none}
use Rattle.wire.specs.Bytes.{bytes, IsWord}
use Rattle.layout.specs.Lists.{All}
use Rattle.layout.specs.Result.{accept}
use Rattle.layout.specs.Write.{write_text}
use Rattle.b3d_spec.specs.declared.Mode.TheVariants.{Lenient}
use Rattle.b3d_spec.specs.declared.Tag.{Tag}
use Rattle.b3d_spec.specs.declared.Tag.TheVariants.{BB3D, TEXS, BRUS, NODE, MESH, KEYS, ANIM}
use Rattle.b3d_spec.specs.Answers.{judge}
use Rattle.b3d_spec.specs.Scene.{Scene}
use Rattle.b3d_spec.specs.Tags.{tag_of, write_chunk}
use Rattle.b3d_spec_demands.specs.Demands.{Alike}
use Rattle.b3d_spec_demands.specs.Calls.{OneCopy}

-- a stretch of a file
pub data FileStretch : Type 0 where
  -- what stands in a chunk of this tag
  body_of : Tag → FileStretch
  -- the chunks in a chunk of this tag, to its end
  chunks_in : Tag → FileStretch
  -- items of a text and this number of bytes, to the end
  items_of : ℕ → FileStretch

-- the bytes n of a text without its zero
abbrev pub IsName : List ℕ → Type 0
IsName n = All (λ c. 0 < c) n

-- n is the letters of no known tag
abbrev pub Unknown : ℕ → Type 0
Unknown n = IsWord n × (tag_of n ≡ none)

-- a chunk with the letters n and the body b, which 01 calls passed over if n is no known tag, before r
abbrev pub passed_over : ℕ → List ℕ → List ℕ → List ℕ
passed_over n b r = bytes n (bytes (length b) (b ++ r))

-- `Without x s v`: v is the stretch s without some of what is private in it
pub data Without : FileStretch → List ℕ → List ℕ → Type 0 where
  -- nothing is taken out
  same : {x : FileStretch} {s : List ℕ} → Without x s s
  -- ---- chunks: without something in the first, and in the others
  -- the first chunk, without some of what is private in its body, and the chunks behind it
  chunk : {k t : Tag} {b c r q : List ℕ} → Without (body_of t) b c → Without (chunks_in k) r q → Without (chunks_in k) (write_chunk t b r) (write_chunk t c q)
  -- a passed-over chunk, wherever a chunk may stand
  passed : {k : Tag} {r q : List ℕ} (n : ℕ) (b : List ℕ) → Unknown n → Without (chunks_in k) r q → Without (chunks_in k) (passed_over n b r) q
  -- ANIM moved behind a KEYS that follows it, and on from there
  later : {q : List ℕ} (a b r : List ℕ) → Without (chunks_in NODE) (write_chunk ANIM a r) q → Without (chunks_in NODE) (write_chunk ANIM a (write_chunk KEYS b r)) (write_chunk KEYS b q)
  -- a passed-over chunk behind the ANIM that moves
  passed-behind : {q : List ℕ} (a r : List ℕ) (n : ℕ) (b : List ℕ) → Unknown n → Without (chunks_in NODE) (write_chunk ANIM a r) q
      → Without (chunks_in NODE) (write_chunk ANIM a (passed_over n b r)) q
  -- TEXS without items
  no_texture : {r q : List ℕ} → Without (chunks_in BB3D) r q → Without (chunks_in BB3D) (write_chunk TEXS [] r) q
  -- BRUS without items, and its n_texs
  no-brush : {r q : List ℕ} (n : ℕ) → IsWord n → Without (chunks_in BB3D) r q → Without (chunks_in BB3D) (write_chunk BRUS (bytes n []) r) q
  -- ---- bodies: what is fixed, under a name no longer, then chunks or items
  -- a BB3D's body: its version stays
  file : {r q : List ℕ} (w : List ℕ) → length w ≡ 4 → Without (chunks_in BB3D) r q → Without (body_of BB3D) (w ++ r) (w ++ q)
  -- a MESH's body: its brush id stays
  mesh : {r q : List ℕ} (w : List ℕ) → length w ≡ 4 → Without (chunks_in MESH) r q → Without (body_of MESH) (w ++ r) (w ++ q)
  -- a NODE's body: its name n becomes m, which is no longer; its ten floats stay
  node : {r q : List ℕ} (n m w : List ℕ) → IsName n → IsName m → length m ≤ length n → length w ≡ 40 → Without (chunks_in NODE) r q → Without (body_of NODE) (write_text n (w ++ r)) (write_text m (w ++ q))
  -- a TEXS's body: items with a text and 28 bytes
  textures : {b c : List ℕ} → Without (items_of 28) b c → Without (body_of TEXS) b c
  -- a BRUS's body with n_texs z, which stays: items with a text, 28 bytes and z ids
  brushes : {b c : List ℕ} (z : ℕ) → IsWord z → Without (items_of (28 + 4 * z)) b c → Without (body_of BRUS) (bytes z b) (bytes z c)
  -- an item: its name n becomes m, which is no longer; its other z bytes stay
  item : {z : ℕ} {r q : List ℕ} (n m w : List ℕ) → IsName n → IsName m → length m ≤ length n → length w ≡ z → Without (items_of z) r q
      → Without (items_of z) (write_text n (w ++ r)) (write_text m (w ++ q))

-- v is the file s without some of what is private in it
pub record FileWithout (s v : List ℕ) : Type 0 where
  -- the body of s
  pub one : List ℕ
  -- the body of v
  pub other : List ℕ
  -- s is one BB3D
  pub one_is : s ≡ write_chunk BB3D one []
  -- v is one BB3D
  pub other_is : v ≡ write_chunk BB3D other []
  -- the body of v is that of s without some of what is private in it
  pub body : Without (body_of BB3D) one other

-- Private things taken out of an accepted file leave it accepted, with the same words.
pub record TakenOut (s v : List ℕ) : Type 0 where
  -- where s is accepted, so is v, and both are alike
  pub alike : (t : Scene) → judge Lenient s ≡ accept t → Alike s v

-- Demand 3: two accepted files that are one file w without what is private are alike, so they get one answer and one copy, whatever
-- private things each holds.
pub record KeptPrivate (s v : List ℕ) : Type 0 where
  -- they are alike
  pub alike : (w : List ℕ) → FileWithout s w → FileWithout v w → (t u : Scene) → judge Lenient s ≡ accept t → judge Lenient v ≡ accept u → Alike s v
  -- cleared into outputs of equal length, they get one answer and one copy
  pub one_copy : (w : List ℕ) → FileWithout s w → FileWithout v w → (t u : Scene) → judge Lenient s ≡ accept t → judge Lenient v ≡ accept u
      → (out out' : List ℕ) → length out ≡ length out' → OneCopy s v out out'
