use Rattle.abc_num.proofs.Proper.{proper_number, proper_text, are_proper, fields_proper, columns_proper, table_proper, element_proper, list_proper}
use Rattle.abc_num.proofs.laws.proper_types.Goals as goal

pub returns : goal.returns
returns c = record {
  number = proper_number;
  text = proper_text;
  compound = λ fields. (fields_proper fields, λ h. are_proper fields h.0 h.1);
  list = λ element. (element_proper element, list_proper element);
  table = λ key associate. (columns_proper key associate, λ h. table_proper key associate h.0 h.1);
}
