mod RunLaws
