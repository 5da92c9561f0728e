use Rattle.std.proofs.Common.{◌≡◌, ℕ, List, Some, ap, subst}
use Rattle.std.specs.Prelude.{Option, string_bytes}
use Rattle.std.proofs.Math.Path.{fun_ext}
use Rattle.std.specs.BTreeMap.{get_by_text}
use Rattle.std.specs.Map.{update}
use Rattle.std.specs.Str.{bytes_eq}
use Rattle.std.proofs.lemmas.Map.Text.{btree_map_updates_text}
use Rattle.col_io.proofs.mem_files.MemFiles.put.Goals as goal

pub returns-in-Ok-clause-ok : goal.returns-in-Ok-clause-ok
returns-in-Ok-clause-ok c =
    let before : List ℕ → Option (List ℕ) = get_by_text c.args.self.now.files in
    let after : List ℕ → Option (List ℕ) = get_by_text c.insert.new.self in
    let at_key : (q : List ℕ) → after q ≡ update bytes_eq before (string_bytes c.in_ok-key.key) (Some c.new.result) q =
    btree_map_updates_text (string_bytes c.in_ok-key.key) c.args.self.now.files c.insert.new.self (Some c.new.result) c.in-Ok.ensures.updates in
    let at_name = subst (λ (name : List ℕ). (q : List ℕ) → after q ≡ update bytes_eq before name (Some c.new.result) q) c.in_ok-key.ensures.ok at_key in
    let with_bytes = subst (λ (bytes : List ℕ). (q : List ℕ) → after q ≡ update bytes_eq before c.args.name.now (Some bytes) q) c.new.ensures at_name in
    ap (λ (map : List ℕ → Option (List ℕ)). Some map) (fun_ext with_bytes)
