-- Both records are sound.
use Rattle.std.proofs.Common.{ap, ◌∙◌}
use Rattle.esm_base.specs.Urls.{is_usable}
use Rattle.esm_realm.proofs.PlainRecords.{plain_record, main_usable, other_usable}
use Rattle.esm_link_tests.proofs.records.ids_count_from_zero.Goals as goal

pub add-requires-clause-record : goal.add-requires-clause-record
add-requires-clause-record c = plain_record _ _ _ (ap is_usable c.in_ok-main.ensures ∙ main_usable) (c.in_ok-entries.ensures.ok ∙ c.empty.ensures) c.new-2.ensures.items

pub add-requires-2-clause-record : goal.add-requires-2-clause-record
add-requires-2-clause-record c = plain_record _ _ _ (ap is_usable c.in_ok-other.ensures ∙ other_usable) (c.in_ok-entries-2.ensures.ok ∙ c.empty-2.ensures) c.new-4.ensures.items
