use Rattle.heap_laws.proofs.StoredObjects.{met_stays, still_stays, unfinished_stays}
use Rattle.heap_laws.proofs.stores.holder_is_not_reset.Goals as goal

pub returns : goal.returns
returns c = record {
  unfinished = λ p h w f bound old v. unfinished_stays p h w f v bound old;
  met = λ p h w f bound old v. met_stays p h w f v bound old;
  still = λ p h w f bound old v. still_stays p h w f v bound old;
}
