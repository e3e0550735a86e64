use Rattle.std.proofs.Common.{IsTrue}
use Rattle.abc_outside.proofs.Tears.{tears, torn_may, shortens, shortened_may, exact_synced}
use Rattle.abc_outside.proofs.laws.stop_model.Goals as goal

pub returns-clause-write : goal.returns-clause-write
returns-clause-write c base loose least most at n image = tears base (λ i. IsTrue (loose i)) least most at n image

pub returns-clause-torn : goal.returns-clause-torn
returns-clause-torn c base loose least most at n image before = torn_may base (λ i. IsTrue (loose i)) least most at n image before

pub returns-clause-cut : goal.returns-clause-cut
returns-clause-cut c base loose least most n image = shortens base (λ i. IsTrue (loose i)) least most n image

pub returns-clause-shortened : goal.returns-clause-shortened
returns-clause-shortened c base loose least most n image before = shortened_may base (λ i. IsTrue (loose i)) least most n image before

pub returns-clause-sync : goal.returns-clause-sync
returns-clause-sync c = exact_synced
