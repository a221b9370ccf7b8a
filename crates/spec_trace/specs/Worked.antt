-- Small runs, and what is told of each: one list, one statement.
use Rattle.std.specs.Prelude.{ℕ, ◌≡◌, List, [], ◌∷◌, map, take, replicate, get_or}
use Rattle.actions.specs.Sets.{Action}
use Rattle.spec_policy.specs.Bytes.{Bytes}
use Rattle.spec_policy.specs.Spots.{bare_fault, fault_on}
use Rattle.spec_policy.specs.Parts.{alone, pair, bottom, L, «V», W, built}
use Rattle.spec_turns.specs.Status.{running, ended, halted}
use Rattle.spec_turns.specs.Saved.{state_size}
use Rattle.spec_trace.specs.Counts.{most_count}
use Rattle.spec_trace.specs.Tallies.{Tally, action_counts, accepted_place, suppressed_place, inserted_place}
use Rattle.spec_trace.specs.Traces.{Report, unopened, followed, unrefused, refused_with, traces}

-- A policy, a trace, and so many event bytes; a tally whose counts are all alike; and the places of action counts to look at.
pub record Given : Type 0 where
  pub policy : Bytes
  pub trace : List Action
  pub room : ℕ
  pub counts : ℕ
  pub looks : List ℕ

pub record Told : Type 0 where
  pub report : Report
  pub written : Bytes  -- as many of the first event bytes as are told
  pub steps : List ℕ
  pub actions : List ℕ  -- the counts at the places looked at

pub record Case : Type 0 where
  pub given : Given
  pub bytes : ℕ  -- how many event bytes are looked at
  pub told : Told

-- the step counts of a run that has as many as the small policies have steps
unfoldable pub tally_of : ℕ → Tally
tally_of n = record { steps = replicate 8 n; actions = replicate action_counts n }

unfoldable pub look_at : List ℕ → ℕ → ℕ
look_at counts i = get_or counts i 0

-- opening takes any bytes for a state
unfoldable pub found : Case → Told
unfolding tally_of look_at
found c =
    let g = c.given in
    let x = traces g.policy g.trace (replicate state_size 255) (replicate g.room 0) (tally_of g.counts) in
    record { report = x.report; written = take c.bytes x.events; steps = x.tally.steps; actions = map (look_at x.tally.actions) g.looks }

unfoldable pub cases : List Case
unfolding built
cases =
    -- L on 1, 2, 2, 2, 2: the fourth 2 halts, and is judged; there is no closing, and step 4 is never reached
    record {
      given = record { policy = alone L; trace = 1 ∷ 2 ∷ 2 ∷ 2 ∷ 2 ∷ 2 ∷ []; room = 600; counts = 0; looks = accepted_place 1 ∷ accepted_place 2 ∷ [] };
      bytes = 10;
      told = record {
        report = followed unrefused 5 4 halted;
        written = 1 ∷ 1 ∷ 1 ∷ 2 ∷ 1 ∷ 2 ∷ 1 ∷ 2 ∷ 0 ∷ 0 ∷ [];
        steps = 4 ∷ 4 ∷ 3 ∷ 1 ∷ 0 ∷ 0 ∷ 0 ∷ 0 ∷ [];
        actions = 1 ∷ 3 ∷ [];
      };
    }
    -- V on 4, and closing: every step is reached, and each call's events begin where the last ended
    ∷ record {
      given = record { policy = alone «V»; trace = 4 ∷ []; room = 600; counts = 0; looks = suppressed_place 4 ∷ inserted_place 3 ∷ [] };
      bytes = 8;
      told = record {
        report = followed unrefused 1 3 ended;
        written = 2 ∷ 4 ∷ 3 ∷ 3 ∷ 3 ∷ 3 ∷ 0 ∷ 0 ∷ [];
        steps = 2 ∷ 1 ∷ 1 ∷ 1 ∷ 1 ∷ 0 ∷ 0 ∷ 0 ∷ [];
        actions = 1 ∷ 2 ∷ [];
      };
    }
    -- V sequential-and W on 4: the insert that W suppresses is no event, and no count; W's steps are numbered after V's
    ∷ record {
      given = record { policy = pair 5 «V» W; trace = 4 ∷ []; room = 600; counts = 0; looks = suppressed_place 4 ∷ suppressed_place 3 ∷ inserted_place 3 ∷ [] };
      bytes = 4;
      told = record {
        report = followed unrefused 1 1 ended;
        written = 2 ∷ 4 ∷ 0 ∷ 0 ∷ [];
        steps = 2 ∷ 1 ∷ 1 ∷ 1 ∷ 1 ∷ 3 ∷ 2 ∷ 1 ∷ [];
        actions = 1 ∷ 0 ∷ 0 ∷ [];
      };
    }
    -- V on 4 with 513 bytes: there is no room left to close, and what was written stays
    ∷ record {
      given = record { policy = alone «V»; trace = 4 ∷ []; room = 513; counts = 0; looks = suppressed_place 4 ∷ inserted_place 3 ∷ [] };
      bytes = 6;
      told = record {
        report = followed (refused_with (bare_fault 15)) 1 2 running;
        written = 2 ∷ 4 ∷ 3 ∷ 3 ∷ 0 ∷ 0 ∷ [];
        steps = 1 ∷ 1 ∷ 1 ∷ 0 ∷ 0 ∷ 0 ∷ 0 ∷ 0 ∷ [];
        actions = 1 ∷ 1 ∷ [];
      };
    }
    -- V with 511 bytes: there is none to open
    ∷ record {
      given = record { policy = alone «V»; trace = 4 ∷ []; room = 511; counts = 0; looks = suppressed_place 4 ∷ [] };
      bytes = 2;
      told = record { report = unopened (bare_fault 15); written = 0 ∷ 0 ∷ []; steps = 0 ∷ 0 ∷ 0 ∷ 0 ∷ 0 ∷ 0 ∷ 0 ∷ 0 ∷ []; actions = 0 ∷ [] };
    }
    -- "15, tried last": 64 with too little room is 13
    ∷ record {
      given = record { policy = alone «V»; trace = 4 ∷ 64 ∷ []; room = 513; counts = 0; looks = suppressed_place 4 ∷ [] };
      bytes = 2;
      told = record {
        report = followed (refused_with (bare_fault 13)) 1 2 running;
        written = 2 ∷ 4 ∷ [];
        steps = 1 ∷ 1 ∷ 1 ∷ 0 ∷ 0 ∷ 0 ∷ 0 ∷ 0 ∷ [];
        actions = 1 ∷ [];
      };
    }
    -- V with all counts one below the most: the tally is brought up to date, not cleared, and no count goes further
    ∷ record {
      given = record { policy = alone «V»; trace = 4 ∷ []; room = 600; counts = 4294967294; looks = suppressed_place 4 ∷ inserted_place 3 ∷ accepted_place 4 ∷ [] };
      bytes = 2;
      told = record {
        report = followed unrefused 1 3 ended;
        written = 2 ∷ 4 ∷ [];
        steps = most_count ∷ most_count ∷ most_count ∷ most_count ∷ most_count ∷ 4294967294 ∷ 4294967294 ∷ 4294967294 ∷ [];
        actions = most_count ∷ most_count ∷ 4294967294 ∷ [];
      };
    }
    -- unsatisfiable alone opens halted: no action is judged, and there is no closing
    ∷ record {
      given = record { policy = alone bottom; trace = 4 ∷ []; room = 512; counts = 0; looks = accepted_place 4 ∷ [] };
      bytes = 2;
      told = record { report = followed unrefused 0 0 halted; written = 0 ∷ 0 ∷ []; steps = replicate 8 0; actions = 0 ∷ [] };
    }
    -- V parallel-and W is refused by the check, at its root
    ∷ record {
      given = record { policy = pair 4 «V» W; trace = []; room = 0; counts = 0; looks = [] };
      bytes = 0;
      told = record { report = unopened (fault_on 9 0); written = []; steps = replicate 8 0; actions = [] };
    }
    ∷ []

unfoldable pub AllTold : Type 0
unfolding found cases
AllTold = map found cases ≡ map (λ c. c.told) cases
