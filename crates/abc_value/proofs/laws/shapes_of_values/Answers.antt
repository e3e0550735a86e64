use Rattle.abc_value.proofs.forms.Joins.{joined_fits, fits_joined}
use Rattle.abc_value.proofs.forms.Shaping.{has_form, form_has, a_type, common_exact, elements_exact}
use Rattle.abc_value.proofs.forms.ProperForms.{proper_type}
use Rattle.abc_value.proofs.laws.shapes_of_values.Goals as goal

pub returns : goal.returns
returns c = record {
  exact = λ v g. (has_form v g, form_has v g);
  join = λ s t g. (fits_joined s t g, λ f. joined_fits s t g f.0 f.1);
  types = a_type;
  proper = proper_type;
  common = common_exact;
  elements = elements_exact;
}
