-- Each call is the same as itself.
use Rattle.std.proofs.Common.{◌≡◌, ℕ, List, true, refl, arith}
use Rattle.std.specs.Prelude.{◌==◌}
use Rattle.std.proofs.lemmas.Bool.Decides.{nat_tests}
use Rattle.std.proofs.lemmas.Slice.Eq.{bytes_eq-Decides}
use Rattle.std.specs.Str.{bytes_eq}
use Rattle.next_ids.specs.declared.ids.DirId.{DirId}
use Rattle.next_ids.specs.declared.call.Call.{Call}
use Rattle.next_ids.specs.declared.call.Call.TheVariants.{Lookup, List as ListCall, StatRoot, Stat, Create, Mkdir, Unlink, Rmdir, Truncate, Rename}
use Rattle.next_ids.specs.Namespace.{is_one_name}
use Rattle.next_rules.specs.SameCalls.{is_call}

number_same : (n : ℕ) → (n == n) ≡ true
number_same n = grind (arith, nat_tests)

name_same : (dir : DirId) (name : List ℕ) → is_one_name dir name dir name ≡ true
name_same dir name = let names : bytes_eq name name ≡ true = (bytes_eq-Decides name name).1 refl in rw (number_same dir.0, names) refl

pub call_same : (call : Call) → is_call call call ≡ true
call_same (Lookup dir name) = name_same dir name
call_same (ListCall dir) = number_same dir.0
call_same StatRoot = refl
call_same (Stat dir name) = name_same dir name
call_same (Create dir name) = name_same dir name
call_same (Mkdir dir name) = name_same dir name
call_same (Unlink dir name) = name_same dir name
call_same (Rmdir dir name) = name_same dir name
call_same (Truncate file size) = rw (number_same file.0, number_same size) refl
call_same (Rename dir name to_dir to_name) = rw (name_same dir name, name_same to_dir to_name) refl
