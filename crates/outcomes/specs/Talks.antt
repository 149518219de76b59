-- The contracts of the session's calls promise what `Program` of crate transcript builds on:
-- from standard input to the whole output. 01, chapter "Worked numbers", "Session program".
use mathlib.Core.Path.{refl}
use Rattle.transcript.specs.Promised.{Starts, Answers, Feeds, Chunks, Closes}
use Rattle.feeding.specs.contracts as feeding
use Rattle.outcomes.specs.Outcome.{PromisesOf}

pub record Talks : Type 0 where
  pub start : PromisesOf feeding.start.ended (λ κs a r e. Starts r) (λ M 𝓤. feeding.start.clauses) (λ M 𝓤 𝓛 m f κs a g r e. refl)
  pub answer : PromisesOf feeding.answer.ended (λ κs a r e. Answers a.0 a.1.0 r) (λ M 𝓤. feeding.answer.clauses) (λ M 𝓤 𝓛 m f κs a g r e. refl)
  pub feed : PromisesOf feeding.feed.ended (λ κs a r e. Feeds a.0 a.1.0 r) (λ M 𝓤. feeding.feed.clauses) (λ M 𝓤 𝓛 m f κs a g r e. refl)
  pub chunk : PromisesOf feeding.chunk.ended (λ κs a r e. Chunks a.0 a.1.0.now a.1.1.0.now r e.1.1.0.now) (λ M 𝓤. feeding.chunk.clauses) (λ M 𝓤 𝓛 m f κs a g r e. refl)
  pub close : PromisesOf feeding.close.ended (λ κs a r e. Closes a.0 r) (λ M 𝓤. feeding.close.clauses) (λ M 𝓤 𝓛 m f κs a g r e. refl)
