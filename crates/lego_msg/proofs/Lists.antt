-- Legal lists cut and joined.
use Rattle.std.proofs.Common.{◌≡◌, [], ◌∷◌, ◌++◌, List, refl}
use Rattle.lego_msg.specs.Laws.{CutAndJoined}
use Rattle.lego_msg.specs.Legal.{Legal}
use Rattle.lego_msg.specs.Run.{after, run}
use Rattle.lego_msg.specs.Track.{Track}
use Rattle.lego_msg.specs.declared.event.Event.{Event}

pub run-append : (t : Track) (es fs : List Event) → run t (es ++ fs) ≡ run (run t es) fs
run-append t [] fs = refl
run-append t (e ∷ es) fs = run-append (after t e) es fs

pub Legal-front : (t : Track) (es fs : List Event) → Legal t (es ++ fs) → Legal t es
Legal-front t [] fs legal = tt
Legal-front t (e ∷ es) fs legal = (legal.0, Legal-front (after t e) es fs legal.1)

pub Legal-back : (t : Track) (es fs : List Event) → Legal t (es ++ fs) → Legal (run t es) fs
Legal-back t [] fs legal = legal
Legal-back t (e ∷ es) fs legal = Legal-back (after t e) es fs legal.1

pub Legal-append : (t : Track) (es fs : List Event) → Legal t es → Legal (run t es) fs → Legal t (es ++ fs)
Legal-append t [] fs front back = back
Legal-append t (e ∷ es) fs front back = (front.0, Legal-append (after t e) es fs front.1 back)

pub cut-and-joined : CutAndJoined
cut-and-joined t es fs = (λ legal. (Legal-front t es fs legal, Legal-back t es fs legal), Legal-append t es fs, run-append t es fs)
