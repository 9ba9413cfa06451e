use Rattle.std.proofs.Common.{rules, ◌≡◌, ℕ, List, map, vec_items, Vec, refl, ap, ◌∙◌}
use Rattle.std.specs.declared.alloc.Global.{Global}
use Rattle.store.specs.Sending.{items_in}
use Rattle.play.specs.Play.{begin}
use Rattle.net.specs.Worlds.{world_of}
use Rattle.net.specs.Laws.{Lawful}
use Rattle.play.proofs.Promise.{always_safe}
use Rattle.play.proofs.History.{always_truly, always_called}
use Rattle.play.proofs.Apart.{part_begin, part_safe, apart_safe, no_message}
use Rattle.play.proofs.FairPump.{only_cleans}
use Rattle.play.proofs.Shifted.{settles_alike}
use Rattle.play.proofs.ExactPart.{settles_part, cleans_part, bounded_part, passes_part, lines_part}
use Rattle.play.proofs.Exactness.{always_settles, always_left}
use Rattle.play.proofs.Bounds.{bounded, few_passes, few_lines}
use Rattle.play.proofs.BoundCalls.{two_rounds}
use Rattle.play.proofs.Cases.{all_cases, goes_on}
use Rattle.play.proofs.Careless.{careless_loses}
use Rattle.rules.proofs.Sound.{sound_step}
use Rattle.promise.proofs.Needed.{stirred_needed}
use Rattle.ends.proofs.Laws.{lawful as endless}
use Rattle.net.proofs.Rows.{row_count, row_begins}
use Rattle.net.proofs.net.Net.new.Goals as goal

lawful : Lawful
lawful =
    record {
      safe = always_safe;
      truly = always_truly;
      called = always_called;
      part = part_safe;
      apart = apart_safe;
      garbled = no_message;
      settles = always_settles;
      cleans = only_cleans;
      settles_alike = settles_alike;
      settles_part = settles_part;
      cleans_part = cleans_part;
      bounded_part = bounded_part;
      passes_part = passes_part;
      lines_part = lines_part;
      bounded = bounded;
      rounds = two_rounds;
      passes = few_passes;
      lines = few_lines;
      left = always_left;
      cases = all_cases;
      goes_on = goes_on;
      sound = sound_step;
      needed = stirred_needed;
      forgetful = careless_loses;
      ends = endless;
    }

begins : (c : goal.After-new-2) → world_of (vec_items c.in_ok-houses.houses) (map items_in (vec_items c.new-2.result)) ≡ begin c.args.count
begins c = ap (λ (xs : List (Vec ℕ Global)). world_of (vec_items c.in_ok-houses.houses) (map items_in xs)) c.new-2.ensures.items ∙ row_begins c.args.count (vec_items c.in_ok-houses.houses) c.in_ok-houses.ensures

pub invariant_of-result : goal.invariant_of-result
invariant_of-result c =
    let e = row_count c.args.count (vec_items c.in_ok-houses.houses) c.in_ok-houses.ensures in
    record { some = search (e, rules); few = search (e, rules); reached = λ _. rw (e, begins c) (∣ part_begin c.args.count ∣₁) }

pub returns-clause-begun : goal.returns-clause-begun
returns-clause-begun c = record { count = row_count c.args.count (vec_items c.in_ok-houses.houses) c.in_ok-houses.ensures; world = begins c.before; faithful = refl }

pub returns-then-not-contains-clause-lawful : goal.returns-then-not-contains-clause-lawful
returns-then-not-contains-clause-lawful c = lawful

pub returns-in_err-houses-clause-lawful : goal.returns-in_err-houses-clause-lawful
returns-in_err-houses-clause-lawful c = lawful

pub returns-clause-lawful : goal.returns-clause-lawful
returns-clause-lawful c = lawful
