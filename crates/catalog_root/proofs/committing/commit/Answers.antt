use Rattle.std.proofs.Common.{◌≡◌, ℕ, ◌∷◌, [], refl, ◌∙◌, subst, inl, inr}
use Rattle.std.specs.Prelude.{Some}
use Rattle.std.specs.Option.{option_map}
use Rattle.std.specs.FinMap.{insert}
use Rattle.common_laws.specs.Maps.{Contents}
use Rattle.std.proofs.lemmas.Result.{on_ok_weaker}
use Rattle.col_disk.proofs.Moving.{moved_told, moved_none, moved_join, moved_wider}
use Rattle.catalog_root.proofs.Crashing.{left_at_body, left_at_gate, replaced, still_old, old_still, moved_named, only_body}
use Rattle.catalog_bytes.specs.declared.form.Form.TheVariants.{Two}
use Rattle.catalog_bytes.specs.Spelling.{spelling}
use Rattle.catalog_root.specs.Root.{body_file, gate_file}
use Rattle.catalog_root.proofs.Commits.{still, body_torn, gate_torn, by_number, after_put, both_put}
use Rattle.catalog_root.proofs.committing.commit.Goals as goal

pub returns-in-Ok-put-clause-done : goal.returns-in-Ok-put-clause-done
returns-in-Ok-put-clause-done g c = on_ok_weaker c.put-in-Ok-put.result (λ gate m told above.
    let body = after_put _ _ m c.body_of.result (body_file c.args.version) c.as_slice.result.now (spelling Two c.args.c.now) told c.body_of.ensures (c.as_slice.ensures.value ∙ c.in-Ok.ensures.spelled) c.in-Ok-put.ensures.done in
    (_, after_put _ _ _ c.gate_of.result (gate_file c.args.version) (86 ∷ []) (86 ∷ []) body c.gate_of.ensures refl gate, both_put c.args.version c.args.c.now m c.requires.valid c.in-Ok.ensures.small c.requires.below above)) c.put-in-Ok-put.ensures.done

pub returns-in-Ok-put-clause-either : goal.returns-in-Ok-put-clause-either
returns-in-Ok-put-clause-either g c = λ m told above.
    let body = after_put _ _ m c.body_of.result (body_file c.args.version) c.as_slice.result.now (spelling Two c.args.c.now) told c.body_of.ensures (c.as_slice.ensures.value ∙ c.in-Ok.ensures.spelled) c.in-Ok-put.ensures.done in
    let t = moved_told g.D.Disk _ body c.put-in-Ok-put.ensures.moved in
    (t.0, t.1, gate_torn c.args.version c.args.c.now m t.0 c.requires.valid c.in-Ok.ensures.small c.requires.below above (by_number _ _ _ _ c.gate_of.ensures t.2))

pub returns-in-Ok-clause-either : goal.returns-in-Ok-clause-either
returns-in-Ok-clause-either g c = λ m told above.
    let t = moved_told g.D.Disk m told c.put.ensures.moved in
    (t.0, t.1, body_torn c.args.version c.args.c.now m t.0 above (by_number _ _ _ _ c.body_of.ensures t.2))

pub returns-clause-either : goal.returns-clause-either
returns-clause-either g c = λ m told above. (m, told, still c.args.version c.args.c.now m)

pub returns-clause-any_moment : goal.returns-clause-any_moment
returns-clause-any_moment g c = λ was m rooted. left_at_body g.D.Disk was c.args.version c.args.c.now m rooted (moved_none g.D.Disk c.args.disk.now)

pub returns-clause-memory : goal.returns-clause-memory
returns-clause-memory g c = λ was m rooted failed x is. old_still was c.args.version _ (g.D.Disk.since c.args.disk.now (g.D.Disk.clock c.args.disk.now)) _ m rooted (λ d same. same) x is

pub returns-in-Ok-clause-any_moment : goal.returns-in-Ok-clause-any_moment
returns-in-Ok-clause-any_moment g c = λ was m rooted. left_at_body g.D.Disk was c.args.version c.args.c.now m rooted (moved_named g.D.Disk c.body_of.ensures c.put.ensures.moved)

pub returns-in-Ok-clause-memory : goal.returns-in-Ok-clause-memory
returns-in-Ok-clause-memory g c = λ was m rooted failed x is. old_still was c.args.version _ (g.D.Disk.since c.args.disk.now (g.D.Disk.clock c.args.disk.now)) (g.D.Disk.since c.put.new.disk (g.D.Disk.clock c.put.new.disk)) m rooted (c.in-Err-put.ensures.memory failed) x is

pub returns-in-Ok-put-clause-any_moment : goal.returns-in-Ok-put-clause-any_moment
returns-in-Ok-put-clause-any_moment g c = λ was m rooted.
    left_at_gate g.D.Disk was c.args.version c.args.c.now m g.D.Disk.laws c.requires.valid c.in-Ok.ensures.small c.requires.below rooted
    (moved_named g.D.Disk c.body_of.ensures c.put.ensures.moved)
    (only_body g.D.Disk m c.body_of.ensures (c.as_slice.ensures.value ∙ c.in-Ok.ensures.spelled) (c.in-Ok-put.ensures.only m rooted.told_is))
    (moved_named g.D.Disk c.gate_of.ensures c.put-in-Ok-put.ensures.moved)

pub returns-in-Ok-put-clause-replaced : goal.returns-in-Ok-put-clause-replaced
returns-in-Ok-put-clause-replaced g c = λ was m rooted.
    let body = after_put _ _ m c.body_of.result (body_file c.args.version) c.as_slice.result.now (spelling Two c.args.c.now) rooted.told_is c.body_of.ensures (c.as_slice.ensures.value ∙ c.in-Ok.ensures.spelled) c.in-Ok-put.ensures.done in
    replaced g.D.Disk was c.args.version c.args.c.now m c.args.disk.now c.put.new.disk c.put-in-Ok-put.new.disk rooted c.put-in-Ok-put.result c.requires.valid c.in-Ok.ensures.small c.requires.below g.D.Disk.laws body
    (on_ok_weaker c.put-in-Ok-put.result (λ done. subst (λ (q : ℕ). g.D.Disk.holds c.put-in-Ok-put.new.disk ≡ option_map (λ (x : Contents). insert x q (86 ∷ [])) (g.D.Disk.holds c.put.new.disk)) c.gate_of.ensures done) c.put-in-Ok-put.ensures.done)
    (on_ok_weaker c.put-in-Ok-put.result (λ only. subst (λ (q : ℕ). (x : Contents) → g.D.Disk.holds c.put.new.disk ≡ Some x → (d : Contents) → g.D.Disk.since c.put-in-Ok-put.new.disk (g.D.Disk.clock c.put-in-Ok-put.new.disk) d → d ≡ insert x q (86 ∷ [])) c.gate_of.ensures only) c.put-in-Ok-put.ensures.only)

pub returns-in-Ok-put-clause-memory : goal.returns-in-Ok-put-clause-memory
returns-in-Ok-put-clause-memory g c = λ was m rooted failed x is.
    still_old g.D.Disk was c.args.version c.args.c.now m c.args.disk.now c.put.new.disk c.put-in-Ok-put.new.disk rooted g.D.Disk.laws
    (only_body g.D.Disk m c.body_of.ensures (c.as_slice.ensures.value ∙ c.in-Ok.ensures.spelled) (c.in-Ok-put.ensures.only m rooted.told_is)) (c.put-in-Ok-put.ensures.memory failed) x is

pub returns-in-Ok-put-clause-moved : goal.returns-in-Ok-put-clause-moved
returns-in-Ok-put-clause-moved g c =
    moved_join g.D.Disk (moved_wider g.D.Disk (λ q is. inl is) (λ q is. is) (moved_named g.D.Disk c.body_of.ensures c.put.ensures.moved)) (moved_wider g.D.Disk (λ q is. inr is) (λ q is. is) (moved_named g.D.Disk c.gate_of.ensures c.put-in-Ok-put.ensures.moved))

pub returns-in-Ok-clause-moved : goal.returns-in-Ok-clause-moved
returns-in-Ok-clause-moved g c = moved_wider g.D.Disk (λ q is. inl is) (λ q is. is) (moved_named g.D.Disk c.body_of.ensures c.put.ensures.moved)

pub returns-clause-moved : goal.returns-clause-moved
returns-clause-moved g c = moved_none g.D.Disk c.args.disk.now
