-- What some words ask for, computed.
use Rattle.std.proofs.Common.{◌≡◌, refl, codes, [], ◌∷◌, None, Some, true}
use Rattle.clap.specs.Words.{is_simple}
use Rattle.clap.specs.Faults.{is_simple_and_free}
use Rattle.clap.proofs.OnLiterals.{clap_on_literals}
use Rattle.abc_words.specs.Words.{abc, reading, on_store, on_made}

a_store : reading (codes "s" ∷ []) ≡ Some (on_store (codes "s") None 10000000)
unfolding clap_on_literals
a_store = refl

a_store_with_all : reading (codes "s" ∷ codes "--from" ∷ codes "f" ∷ codes "--steps" ∷ codes "5" ∷ []) ≡ Some (on_store (codes "s") (Some (codes "f")) 5)
unfolding clap_on_literals
a_store_with_all = refl

options_first : reading (codes "--steps=5" ∷ codes "--from=f" ∷ codes "--" ∷ codes "-s" ∷ []) ≡ Some (on_store (codes "-s") (Some (codes "f")) 5)
unfolding clap_on_literals
options_first = refl

a_made_input : reading (codes "--make" ∷ codes "3" ∷ []) ≡ Some (on_made 3 10000000)
unfolding clap_on_literals
a_made_input = refl

the_greatest : reading (codes "--make" ∷ codes "10000" ∷ codes "--steps" ∷ codes "1000000000000" ∷ []) ≡ Some (on_made 10000 1000000000000)
unfolding clap_on_literals
the_greatest = refl

no_words : reading [] ≡ None
unfolding clap_on_literals
no_words = refl

two_stores : reading (codes "s" ∷ codes "t" ∷ []) ≡ None
unfolding clap_on_literals
two_stores = refl

no_value : reading (codes "s" ∷ codes "--steps" ∷ []) ≡ None
unfolding clap_on_literals
no_value = refl

no_step : reading (codes "s" ∷ codes "--steps" ∷ codes "0" ∷ []) ≡ None
unfolding clap_on_literals
no_step = refl

steps_twice : reading (codes "s" ∷ codes "--steps" ∷ codes "1" ∷ codes "--steps" ∷ codes "2" ∷ []) ≡ None
unfolding clap_on_literals
steps_twice = refl

a_store_and_a_made_input : reading (codes "s" ∷ codes "--make" ∷ codes "3" ∷ []) ≡ None
unfolding clap_on_literals
a_store_and_a_made_input = refl

a_made_input_from_a_file : reading (codes "--make" ∷ codes "3" ∷ codes "--from" ∷ codes "f" ∷ []) ≡ None
unfolding clap_on_literals
a_made_input_from_a_file = refl

a_file_alone : reading (codes "--from" ∷ codes "f" ∷ []) ≡ None
unfolding clap_on_literals
a_file_alone = refl

another_option : reading (codes "s" ∷ codes "--other" ∷ []) ≡ None
unfolding clap_on_literals
another_option = refl

help : reading (codes "--help" ∷ []) ≡ None
unfolding clap_on_literals
help = refl

one_too_many : reading (codes "--make" ∷ codes "10001" ∷ []) ≡ None
unfolding clap_on_literals
one_too_many = refl

a_digit_too_many : reading (codes "--make" ∷ codes "000003" ∷ []) ≡ None
unfolding clap_on_literals
a_digit_too_many = refl

pub is_plain : is_simple abc ≡ true
unfolding clap_on_literals
is_plain = refl

pub is_free : is_simple_and_free abc ≡ true
unfolding clap_on_literals
is_free = refl
