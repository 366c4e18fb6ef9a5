use Rattle.dr_c.proofs.one_of_several.OneOfSeveral.publish_slots.Goals as goal

pub invariant_of-self : goal.invariant_of-self
invariant_of-self c = record { claims = c.publish_slots.ensures.claims }

pub publish_slots-requires : goal.publish_slots-requires
publish_slots-requires c = c.args.self.now.claims
