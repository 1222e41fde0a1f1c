-- `next_scope` gives what the definition says.
use Rattle.b3d_mend_write_scopes.proofs.ScopeLaws.{scope_laws}
use borrow.Author.Rules.{rules}
use Rattle.b3d_mend_write_scopes.proofs.next_scope.Goals as goal

pub enum_told-1 : goal.enum_told-1
enum_told-1 c = search (scope_laws, rules)

pub enum_told-in-BRUS : goal.enum_told-in-BRUS
enum_told-in-BRUS c = search (scope_laws, rules)

pub enum_told-in-VRTS : goal.enum_told-in-VRTS
enum_told-in-VRTS c = search (scope_laws, rules)

pub enum_told-in-MESH : goal.enum_told-in-MESH
enum_told-in-MESH c = search (scope_laws, rules)

pub returns-then-c : goal.returns-then-c
returns-then-c c = search (scope_laws, rules)

pub enum_told-in-ANIM : goal.enum_told-in-ANIM
enum_told-in-ANIM c = search (scope_laws, rules)

pub enum_told-in-BB3D : goal.enum_told-in-BB3D
enum_told-in-BB3D c = search (scope_laws, rules)

pub enum_told-in-NODE : goal.enum_told-in-NODE
enum_told-in-NODE c = search (scope_laws, rules)

pub enum_told-in-TRIS : goal.enum_told-in-TRIS
enum_told-in-TRIS c = search (scope_laws, rules)

pub enum_told-in-BONE : goal.enum_told-in-BONE
enum_told-in-BONE c = search (scope_laws, rules)

pub enum_told-in-KEYS : goal.enum_told-in-KEYS
enum_told-in-KEYS c = search (scope_laws, rules)

pub returns-in-TEXS : goal.returns-in-TEXS
returns-in-TEXS c = search (scope_laws, rules)

pub returns-in-BRUS : goal.returns-in-BRUS
returns-in-BRUS c = search (scope_laws, rules)

pub returns-in-VRTS : goal.returns-in-VRTS
returns-in-VRTS c = search (scope_laws, rules)

pub returns-else-c : goal.returns-else-c
returns-else-c c = search (scope_laws, rules)

pub returns-in-ANIM : goal.returns-in-ANIM
returns-in-ANIM c = search (scope_laws, rules)

pub returns-in-BB3D : goal.returns-in-BB3D
returns-in-BB3D c = search (scope_laws, rules)

pub returns-in-NODE : goal.returns-in-NODE
returns-in-NODE c = search (scope_laws, rules)

pub returns-in-TRIS : goal.returns-in-TRIS
returns-in-TRIS c = search (scope_laws, rules)

pub returns-in-BONE : goal.returns-in-BONE
returns-in-BONE c = search (scope_laws, rules)

pub returns-in-KEYS : goal.returns-in-KEYS
returns-in-KEYS c = search (scope_laws, rules)
