use Rattle.heap_laws.proofs.StoredObjects.{bound_back, stored_back, stored_count, stored_forward, stored_gives_up, stored_goes_on, stored_links}
use Rattle.heap_laws.proofs.stores.stored_objects.Goals as goal

pub returns : goal.returns
returns c = record {
  bound = bound_back;
  before = λ p h w f bound v n y still at. stored_back p h w f v bound n y still at;
  after = λ p h w f bound v n x still at. stored_forward p h w f v bound n x still at;
  given = λ p h w f bound v n x y still before gone at. stored_gives_up p h w f v bound n x y still before gone at;
  goes_on = stored_goes_on;
  links = stored_links;
  count = λ p h w f bound v. stored_count p h w f v bound;
}
