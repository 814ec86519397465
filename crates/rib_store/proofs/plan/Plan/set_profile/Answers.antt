-- What a plan keeps of its commands doesn't depend on the profile.
use Rattle.rib_store.proofs.plan.Plan.set_profile.Goals as goal

pub invariant_of-self : goal.invariant_of-self
invariant_of-self g c =
    let is = c.self.invariant in
    record { profile = c.requires; most = is.most; modules = is.modules; weights = is.weights; order = is.order; numbering = is.numbering }
