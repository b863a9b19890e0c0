-- The `==` of objects and keys tells whether two are equal.
use Rattle.rule_types.proofs.PublicLaws.{equal_keys-space, equal_keys-object_kind, equal_keys-object_word, equal_keys-object_no, equal_keys-attr, equal_keys-clock_attr, equal_keys-key}
use Rattle.rule_types.proofs.laws.equal_keys.Goals as goal

pub returns : goal.returns
returns c = record { space = equal_keys-space; object_kind = equal_keys-object_kind; object_word = equal_keys-object_word; object_no = equal_keys-object_no; attr = equal_keys-attr; clock_attr = equal_keys-clock_attr; key = equal_keys-key }
