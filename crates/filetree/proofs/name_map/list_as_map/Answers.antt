use Rattle.std.proofs.Common.{◌≡◌, ◌∙◌, ap, arith, suc, ◌-◌, ◌<◌, length, string_bytes, map as each}
use Rattle.filetree.specs.NameMaps.{mapped, name_value}
use Rattle.filetree.proofs.NameMaps.{mapped_inserted, filled_more}
use Rattle.filetree.proofs.name_map.list_as_map.Goals as goal

pub loop-left-preserved-in_ok-insert : goal.loop-left-preserved-in_ok-insert
loop-left-preserved-in_ok-insert g c =
    let next : c.loop-left.left ≡ suc (c.loop-left.left - 1) = omega arith in
    let within : c.loop-left.left - 1 < length c.args.list.now = omega arith in
    record {
      within = omega arith;
      filled = ap (each name_value) c.in_ok-insert.ensures.entries ∙ mapped_inserted c.loop-left.map.entries c.in_ok-name.name c.in_ok-try_clone.field-0
          ∙ filled_more c.args.list.now c.loop-left.left (c.loop-left.left - 1) (mapped c.loop-left.map) (string_bytes c.in_ok-name.name) c.in_ok-try_clone.field-0.value c.index-list-left.result
          next within c.requires c.loop-left.invariant.filled c.index-list-left.is (c.in_ok-name.ensures.ok ∙ c.as_str.ensures) c.in_ok-try_clone.ensures;
    }

pub loop-left-preserved : goal.loop-left-preserved
loop-left-preserved g c =
    let next : c.loop-left.left ≡ suc (c.loop-left.left - 1) = omega arith in
    let within : c.loop-left.left - 1 < length c.args.list.now = omega arith in
    record {
      within = omega arith;
      filled = ap (each name_value) c.in_ok-insert.ensures.entries ∙ mapped_inserted c.loop-left.map.entries c.in_ok-name.name c.in_ok-try_clone.field-0
          ∙ filled_more c.args.list.now c.loop-left.left (c.loop-left.left - 1) (mapped c.loop-left.map) (string_bytes c.in_ok-name.name) c.in_ok-try_clone.field-0.value c.index-list-left.result
          next within c.requires c.loop-left.invariant.filled c.index-list-left.is (c.in_ok-name.ensures.ok ∙ c.as_str.ensures) c.in_ok-try_clone.ensures;
    }
