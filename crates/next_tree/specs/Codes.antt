-- How nodes, times, directories, files and namespaces are stored: as the tuples of their parts.
use Rattle.std.specs.Prelude.{◌≡◌, ℕ, Bool, true, false, refl}
use Rattle.std.specs.Coded.{Coded, code_by, coded×, coded_ℕ, coded_bool, coded_list}
use Rattle.std.specs.FinMap as map
use Rattle.next_ids.specs.declared.ids.Node.{Node}
use Rattle.next_ids.specs.declared.ids.Node.TheVariants.{Dir, File}
use Rattle.next_ids.specs.declared.time.Ts.{Ts}
use Rattle.next_ids.specs.Maps.{Names, Numbers}
use Rattle.next_ids.specs.Namespace.{Directory, FileFacts, Namespace}

-- whether a node is a directory, and its number
abbrev parts_of : Node → Bool × ℕ
parts_of (Dir dir) = (true, dir.0)
parts_of (File file) = (false, file.0)

abbrev node_of : Bool × ℕ → Node
node_of (true, k) = Dir (record { 0 = k })
node_of (false, k) = File (record { 0 = k })

abbrev node_back : (n : Node) → node_of (parts_of n) ≡ n
node_back (Dir dir) = refl
node_back (File file) = refl

abbrev pub node_code : Coded Node
node_code = code_by (Bool × ℕ) (coded× coded_bool coded_ℕ) parts_of node_of node_back

abbrev pub time_code : Coded Ts
time_code = code_by (ℕ × ℕ) (coded× coded_ℕ coded_ℕ) (λ t. (t.moment, t.number)) (λ p. record { moment = p.0; number = p.1 }) (λ _. refl)

abbrev pub directory_code : Coded Directory
directory_code = code_by (Names Node × Ts) (coded× (map.code (coded_list coded_ℕ) node_code) time_code) (λ d. (d.names, d.time)) (λ p. record { names = p.0; time = p.1 }) (λ _. refl)

abbrev pub file_code : Coded FileFacts
file_code = code_by (ℕ × Ts) (coded× coded_ℕ time_code) (λ f. (f.size, f.time)) (λ p. record { size = p.0; time = p.1 }) (λ _. refl)

abbrev pub namespace_code : Coded Namespace
namespace_code = code_by (Numbers Directory × Numbers FileFacts) (coded× (map.code coded_ℕ directory_code) (map.code coded_ℕ file_code)) (λ n. (n.dirs, n.files)) (λ p. record { dirs = p.0; files = p.1 }) (λ _. refl)
